-- Which goals a rule is for.
use Rattle.std.specs.Prelude.{◌≡◌, ℕ, ◌≤◌, Bool, Option, Some, None}
use Rattle.mq_talk.specs.declared.goal.Goal.{Goal}
use Rattle.mq_talk.specs.declared.goal.Goal.TheVariants as goal
use Rattle.mq_policy.specs.declared.rule.Rule.{Rule}
use Rattle.mq_policy.specs.declared.rule.Rule.TheVariants as rule
use Rattle.mq_policy.specs.Areas.{InArea, Covers}

abbrev pub allows : Rule → Bool
allows (rule.Udp allow block low high) = allow
allows (rule.Ip allow block protocol) = allow

-- both ends of the range are in it
abbrev pub IsForPort : ℕ → ℕ → ℕ → Type 0
IsForPort low high port = (low ≤ port) × (port ≤ high)

-- A rule without a protocol is for every request. One with a protocol is for a request of that one, and not for a
-- request of all protocols.
abbrev pub IsForProtocol : Option ℕ → Option ℕ → Type 0
IsForProtocol None asked = Unit {0}
IsForProtocol (Some protocol) asked = asked ≡ Some protocol

-- A rule for UDP is for goals of UDP: the address is in its area, and the port in its range. A rule for IP is for goals
-- of IP: the whole area that is asked for is in its area.
abbrev pub Matches : Rule → Goal → Type 0
Matches (rule.Udp allow block low high) (goal.Udp addr port) = InArea block addr × IsForPort low high port
Matches (rule.Ip allow block protocol) (goal.Ip area asked) = Covers block area × IsForProtocol protocol asked
Matches (rule.Udp allow block low high) (goal.Ip area asked) = ⊥
Matches (rule.Ip allow block protocol) (goal.Udp addr port) = ⊥
