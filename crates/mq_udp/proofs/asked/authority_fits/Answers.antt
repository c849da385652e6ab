use Rattle.std.proofs.Common.{◌≡◌, ◌≤◌, ℕ, List, length, subst}
use Rattle.mq_udp.proofs.Visible.{authority_short, authority_visible}
use Rattle.mq_udp.proofs.asked.authority_fits.Goals as goal

pub returns-clause-visible : goal.returns-clause-visible
returns-clause-visible c = authority_visible c.addr_bytes.ensures c.printed_again.ensures c.args.addr.now c.has_its_size.ensures c.args.port c.ranges.port.fits

pub returns-clause-short : goal.returns-clause-short
returns-clause-short c =
    let few = subst (λ (text : List ℕ). length text ≤ 39) c.addr_text-text.ensures.value c.addr_text-text.ensures.short in
    authority_short c.args.addr.now few c.args.port c.ranges.port.fits
