use Rattle.std.proofs.Common.{◌≡◌, ℕ, ◌+◌, List, length, refl, sym, ap, ◌∙◌}
use Rattle.mq_addr.specs.declared.addr.Addr.{Addr}
use Rattle.mq_mem.specs.Offices.{seen_of}
use Rattle.mq_mem.proofs.Boxes.{length_empty}
use Rattle.mq_net.specs.Sims.{new_sim}
use Rattle.mq_world.specs.Worlds.{IsUnused}
use Rattle.mq_world.proofs.Beginning.{unwritten, unsent, stands_new}
use Rattle.mq_world.proofs.workers.Workers.new.Goals as goal

pub returns : goal.returns
returns c =
    let plan = c.args.plan in
    let boxes = (unsent plan.workers).boxes in
    let workers = c.requires.book.workers_are in
    let size : length boxes ≡ plan.book.workers + 1 = length_empty (plan.workers + 1) ∙ ap (λ (n : ℕ). n + 1) (sym workers) in
    let begun : IsUnused (seen_of (unwritten plan.book)) boxes plan.setup = record { written = refl; inboxes = size; pump = c.requires.setup.pump ∙ sym workers } in
    let pump = c.in_ok-pump.ensures in
    stands_new plan _ plan.workers c.requires c.new-4.ensures.items c.in_ok-office.ensures c.in_ok-mail.ensures refl (c.in_ok-rests.ensures.items_if_clones_equal (λ y e. cc)) refl
    (pump.is.0 ∙ c.in_ok-net.ensures ∙ ap (λ (hosts : List Addr). new_sim hosts) c.as_slice.ensures) pump.is.1 pump.stands
    (c.in_ok-workers.ensures (seen_of (unwritten plan.book)) boxes begun (sym workers))
