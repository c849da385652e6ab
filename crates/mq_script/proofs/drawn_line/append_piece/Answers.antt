use Rattle.std.proofs.Common.{[], ◌∷◌, ◌++◌, codes, decimal}
use Rattle.hex.specs.Hex.{encode_lower}
use Rattle.mq_capsule.specs.Writing.{capsule_text, datagram}
use Rattle.mq_script.specs.Generated.{client_of, packet_of, piece_line}
use Rattle.mq_script.proofs.Printed.{appends_more}
use Rattle.mq_script.proofs.drawn_line.append_piece.Goals as goal

pub returns : goal.returns
unfolding piece_line
returns c =
    let client = decimal (client_of c.args.drawn) in
    let digits = encode_lower (capsule_text (datagram (packet_of c.args.drawn c.args.number))) in
    let last = rw (c.as_slice.ensures.value, c.in_ok-capsule.ensures) at c.append_hex.ensures in
    let behind = appends_more c.append_number.new.out.items (32 ∷ []) c.append-2.new.out.items digits _ _ c.in_ok-append-2.ensures last in
    let named = rw (c.from.ensures, c.client.ensures) at c.in_ok-append_number.ensures in
    let from_client = appends_more c.append.new.out.items client c.append_number.new.out.items (32 ∷ digits) _ _ named behind in
    appends_more c.args.out.now.items (codes "bytes ") c.append.new.out.items (client ++ 32 ∷ digits) _ _ c.in_ok-append.ensures from_client
