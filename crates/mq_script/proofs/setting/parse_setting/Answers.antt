use Rattle.mq_script.proofs.setting.parse_setting.Goals as goal

pub returns-in-Workers : goal.returns-in-Workers
returns-in-Workers c = let word = c.in-Workers.is in rw word c.parse_workers.ensures

pub returns-in-Template : goal.returns-in-Template
returns-in-Template c = let word = c.in-Template.is in rw word c.parse_template.ensures

pub returns-in-Name : goal.returns-in-Name
returns-in-Name c = let word = c.in-Name.is in rw word c.parse_name_setting.ensures

pub returns-in-Allow : goal.returns-in-Allow
returns-in-Allow c = let word = c.in-Allow.is in rw word c.parse_rule.ensures

pub returns-in-Deny : goal.returns-in-Deny
returns-in-Deny c = let word = c.in-Deny.is in rw word c.parse_rule-in-Deny.ensures

pub returns-in-Pool : goal.returns-in-Pool
returns-in-Pool c = let word = c.in-Pool.is in rw word c.parse_pool.ensures

pub returns-in-Reach : goal.returns-in-Reach
returns-in-Reach c = let word = c.in-Reach.is in rw word c.parse_reach.ensures

pub returns-in-Route : goal.returns-in-Route
returns-in-Route c = let word = c.in-Route.is in rw word c.parse_route.ensures

pub returns-in-Host : goal.returns-in-Host
returns-in-Host c = let word = c.in-Host.is in rw word c.parse_host.ensures

pub returns-in-Mtu : goal.returns-in-Mtu
returns-in-Mtu c = let word = c.in-Mtu.is in rw word c.parse_mtu.ensures

pub returns-in-History : goal.returns-in-History
returns-in-History c = let word = c.in-History.is in rw word c.parse_history.ensures
