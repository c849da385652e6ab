use Rattle.mq_ipcaps.proofs.Back.{request_back, assign_back, routes_back}
use Rattle.mq_ipcaps.proofs.laws.is_read_back.Goals as goal

pub returns : goal.returns
returns c = record { request = request_back c.read_again.ensures; assign = assign_back c.read_again.ensures; routes = routes_back }
