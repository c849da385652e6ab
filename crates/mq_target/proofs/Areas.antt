-- Texts that are no area.
use Rattle.std.proofs.Common.{◌≡◌, ◌≢◌, ℕ, false, List, codes, sym, subst, refl, inl, inr}
use Rattle.mq_text.specs.Cut.{Lacks}
use Rattle.mq_addr.specs.declared.addr.Addr.{Addr}
use Rattle.mq_addr.specs.declared.prefix.Prefix.{Prefix}
use Rattle.mq_addr.specs.Addr.{IsAddrText}
use Rattle.mq_addr.specs.Block.{width, EndsInZeros}
use Rattle.mq_addr.specs.Prefixes.{IsPrefixForm, HasOnePrefix}
use Rattle.mq_target.specs.declared.target.Area.{Area}
use Rattle.mq_target.specs.declared.target.Area.TheVariants as area
use Rattle.mq_target.specs.Classes.{is_name_byte}
use Rattle.mq_target.specs.Values.{IsArea}
use Rattle.mq_target.proofs.Bytes.{all_lack, lacks_none}

pub no_addr : (text : List ℕ) → ((block : Prefix) → ¬ (IsPrefixForm text block)) → (a : Addr) → ¬ (IsAddrText text a)
no_addr text none a h = none (record { addr = a; length = width a }) (inl (record { addr = h; full = refl }))

no_slash : is_name_byte 47 ≡ false
unfolding is_name_byte
no_slash = refl

-- a prefix with a bit set past its length
pub set_bits : HasOnePrefix → (text : List ℕ) → text ≢ codes "*" → (block : Prefix) → IsPrefixForm text block → ¬ (EndsInZeros block) → (found : Area) → ¬ (IsArea text found)
set_bits one text not_all block form bits area.All h = not_all h
set_bits one text not_all block form bits (area.Block other) h = bits (subst EndsInZeros (sym (one text block other form h.0)) h.1)
set_bits one text not_all block (inl alone) bits (area.Name name) h = h.no_addr block.addr alone.addr
set_bits one text not_all block (inr long) bits (area.Name name) h =
    lacks_none 47 long.front long.digits (subst (Lacks 47) long.is (all_lack is_name_byte 47 text no_slash h.form.bytes))
