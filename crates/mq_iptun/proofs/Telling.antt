-- Whatever a book answers can be told.
use Rattle.std.proofs.Common.{List, sym, subst}
use Rattle.mq_addr.specs.declared.range.Range.{Range}
use Rattle.mq_talk.specs.declared.goal.Goal.{Goal}
use Rattle.mq_talk.specs.declared.goal.Goal.TheVariants as goal
use Rattle.mq_talk.specs.declared.book.Config.{Config}
use Rattle.mq_talk.specs.declared.book.Call.TheVariants.{Open, Assign, Advertise, Close}
use Rattle.mq_talk.specs.declared.book.Reply.TheVariants.{Opened, HistoryFull, Assigned, Accepted, Closed}
use Rattle.mq_talk.specs.Answers.{IsRoutes}
use Rattle.mq_talk.specs.Config.{IsConfig}
use Rattle.mq_ipcaps.specs.Lists.{AreRoutes}
use Rattle.mq_iptun.specs.Answers.{AnswersCanBeTold}
use Rattle.mq_iptun.proofs.Assigning.{assigned_told, held_fit}
use Rattle.mq_iptun.proofs.Meeting.{meet_routes, no_routes}

routes_told : (config : Config) (wish : Goal) (routes : List Range) → IsConfig config → IsRoutes config wish routes
    → AreRoutes routes
routes_told config (goal.Udp addr port) routes good is = subst AreRoutes (sym is) no_routes
routes_told config (goal.Ip area protocol) routes good is =
    meet_routes config.routes area protocol routes good.few_routes is

pub can_be_told : AnswersCanBeTold
can_be_told config h actor (Open conn stream names wish) (Opened tunnel routes) good legal may (fits, at, is) =
    routes_told config wish routes good is
can_be_told config h actor (Open conn stream names wish) (Assigned list at) good legal may is = absurd is
can_be_told config h actor (Assign tunnel asked) (Assigned list place) good legal may is =
    assigned_told config h tunnel asked list (held_fit config h legal tunnel) may.3 may.4 is.2
can_be_told config h actor (Assign tunnel asked) (Opened u routes) good legal may is = absurd is
can_be_told config h actor (Advertise tunnel offered) (Opened u routes) good legal may is = absurd is
can_be_told config h actor (Advertise tunnel offered) (Assigned list at) good legal may is = absurd is
can_be_told config h actor (Close tunnel) (Opened u routes) good legal may is = absurd is
can_be_told config h actor (Close tunnel) (Assigned list at) good legal may is = absurd is
can_be_told config h actor call (HistoryFull entries live) good legal may is = tt
can_be_told config h actor call (Accepted accepts at) good legal may is = tt
can_be_told config h actor call Closed good legal may is = tt
