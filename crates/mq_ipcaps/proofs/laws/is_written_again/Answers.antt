use Rattle.mq_ipcaps.proofs.Back.{request_again, assign_again, routes_again}
use Rattle.mq_ipcaps.proofs.laws.is_written_again.Goals as goal

pub returns : goal.returns
returns c = record { request = request_again; assign = assign_again; routes = routes_again }
