-- An input cut into lines that spell payloads.
use Rattle.std.proofs.Common.{◌≡◌, ◌≢◌, ℕ, ◌+◌, ◌<◌, ◌≤◌, List, [], ◌∷◌, ◌++◌, length, Result, Ok, Err, refl, sym, ap, subst, ◌∙◌, arith, append_assoc, append-nil, inl, inr}
use Rattle.std.specs.Prelude.{◌⊎◌}
use Rattle.std.proofs.lemmas.List.{length-append}
use Rattle.std.proofs.lemmas.List.Concat.{flat_map-append}
use Rattle.hex.proofs.HexLemmas.{length-encode_with}
use Rattle.hex.specs.Hex.{encode_lower, lower_digits}
use Rattle.mq_output.specs.declared.stop.Stop.{Stop}
use Rattle.mq_output.specs.declared.stop.Stop.TheVariants as stop
use Rattle.mq_play.specs.Lines.{IsPayload}
use Rattle.mq_play.specs.Script.{AreLines, text_of}
use Rattle.mq_play.specs.Text.{newline}
use Rattle.mq_text.specs.Cut.{Lacks}
use Rattle.mq_udp.specs.declared.input.Input.{Input}
use Rattle.mq_udp.specs.Input.{AreSpelled, BeginsWith, EndsTo, IsBadLine, IsInput, IsNoGoodLine, IsRead, IsSpelled, LineEnds, ReadsOn, StaysBad, most_line, most_payloads}

-- ---- lines

lacks_both : (b : ℕ) (xs ys : List ℕ) → Lacks b xs → Lacks b ys → Lacks b (xs ++ ys)
lacks_both b [] ys p q = q
lacks_both b (x ∷ xs) ys p q = (p.0, lacks_both b xs ys p.1 q)

lacks_not : (a rest : List ℕ) → Lacks newline (a ++ newline ∷ rest) → ⊥
lacks_not [] rest h = h.0 refl
lacks_not (x ∷ a) rest h = lacks_not a rest h.1

lines_more : (lines : List (List ℕ)) (line : List ℕ) → AreLines lines → Lacks newline line → AreLines (lines ++ line ∷ [])
lines_more [] line p h = (h, tt)
lines_more (x ∷ xs) line p h = (p.0, lines_more xs line p.1 h)

text_more : (lines : List (List ℕ)) (line : List ℕ) → text_of (lines ++ line ∷ []) ≡ text_of lines ++ (line ++ newline ∷ [])
text_more lines line = flat_map-append _ lines (line ∷ []) ∙ ap (λ (xs : List ℕ). text_of lines ++ xs) (append-nil (line ++ newline ∷ []))

spelled_more : (lines payloads : List (List ℕ)) (line payload : List ℕ) → AreSpelled lines payloads → IsPayload line payload → AreSpelled (lines ++ line ∷ []) (payloads ++ payload ∷ [])
spelled_more [] [] line payload s p = (p, tt)
spelled_more [] (q ∷ qs) line payload s p = absurd s
spelled_more (l ∷ ls) [] line payload s p = absurd s
spelled_more (l ∷ ls) (q ∷ qs) line payload s p = (s.0, spelled_more ls qs line payload s.1 p)

spelled_length : (lines payloads : List (List ℕ)) → AreSpelled lines payloads → length lines ≡ length payloads
spelled_length [] [] s = refl
spelled_length [] (q ∷ qs) s = absurd s
spelled_length (l ∷ ls) [] s = absurd s
spelled_length (l ∷ ls) (q ∷ qs) s = let e = spelled_length ls qs s.1 in omega (arith, e)

-- a line that spells a payload isn't longer than a line may be
payload_fits : (line payload : List ℕ) → IsPayload line payload → length line ≤ most_line
payload_fits line payload p =
    let size : length line ≡ length (encode_lower payload) = ap (λ (xs : List ℕ). length xs) p.0.is in
    omega (arith, size, length-encode_with lower_digits payload, p.1)

-- a front without a newline stands in the first line
front_within : (front more line rest : List ℕ) → Lacks newline front → front ++ more ≡ line ++ newline ∷ rest → length front ≤ length line
front_within [] more line rest h e = omega arith
front_within (b ∷ front) more [] rest h e = let same : b ≡ newline = cc in absurd (h.0 same)
front_within (b ∷ front) more (c ∷ line) rest h e =
    let tail : front ++ more ≡ line ++ newline ∷ rest = cc in
    let within = front_within front more line rest h.1 tail in
    omega (arith, within)

-- one way to cut
same_line : (a b c d : List ℕ) → Lacks newline a → Lacks newline c → a ++ newline ∷ b ≡ c ++ newline ∷ d → a ≡ c
same_line [] b [] d p q e = refl
same_line [] b (y ∷ c) d p q e = let same : y ≡ newline = cc in absurd (q.0 same)
same_line (x ∷ a) b [] d p q e = let same : x ≡ newline = cc in absurd (p.0 same)
same_line (x ∷ a) b (y ∷ c) d p q e =
    let head : x ≡ y = cc in
    let tail : a ++ newline ∷ b ≡ c ++ newline ∷ d = cc in
    let is : a ≡ c = same_line a b c d p.1 q.1 tail in
    cc

not_nil : (xs : List ℕ) → 0 < length xs → xs ≢ []
not_nil [] h = absurd (omega (arith, h))
not_nil (x ∷ xs) h = λ e. absurd cc

-- the first line of a text whose front has no newline
begins_within : (front more line : List ℕ) → Lacks newline front → BeginsWith (front ++ more) line → length front ≤ length line
begins_within front more line h b = by_end b.is where
  by_end : (front ++ more ≡ line) ⊎ ((rest : List ℕ) × (front ++ more ≡ line ++ newline ∷ rest)) → length front ≤ length line
  by_end (inl e) =
      let size : length (front ++ more) ≡ length line = ap (λ (xs : List ℕ). length xs) e in
      omega (arith, size, length-append front more)
  by_end (inr cut) = front_within front more line cut.0 h cut.1

-- the first line of a text that is cut there
begins_at : (line more other : List ℕ) → Lacks newline line → BeginsWith (line ++ newline ∷ more) other → other ≡ line
begins_at line more other h b = by_end b.is where
  by_end : (line ++ newline ∷ more ≡ other) ⊎ ((rest : List ℕ) × (line ++ newline ∷ more ≡ other ++ newline ∷ rest)) → other ≡ line
  by_end (inl e) = absurd (lacks_not line more (subst (Lacks newline) (sym e) b.plain))
  by_end (inr cut) = sym (same_line line more other cut.0 h b.plain cut.1)

-- the only line of a text without a newline
begins_last : (line other : List ℕ) → Lacks newline line → BeginsWith line other → other ≡ line
begins_last line other h b = by_end b.is where
  by_end : (line ≡ other) ⊎ ((rest : List ℕ) × (line ≡ other ++ newline ∷ rest)) → other ≡ line
  by_end (inl e) = sym e
  by_end (inr cut) = absurd (lacks_not other cut.0 (subst (Lacks newline) cut.1 h))

-- ---- more of an input

spelled_on : (text : List ℕ) (lines : List (List ℕ)) (begun : List ℕ) (payloads : List (List ℕ)) (more : List ℕ) → IsSpelled text lines begun payloads → IsSpelled (text ++ more) lines (begun ++ more) payloads
spelled_on text lines begun payloads more s = record {
  is = ap (λ (xs : List ℕ). xs ++ more) s.is ∙ append_assoc (text_of lines) begun more;
  are = s.are;
  spelled = s.spelled;
  few = s.few;
}

spelled_line : (text : List ℕ) (lines : List (List ℕ)) (line : List ℕ) (payloads : List (List ℕ)) (payload : List ℕ) → IsSpelled text lines line payloads → Lacks newline line → IsPayload line payload
    → length payloads < most_payloads → IsSpelled (text ++ newline ∷ []) (lines ++ line ∷ []) [] (payloads ++ payload ∷ [])
spelled_line text lines line payloads payload s plain says few = record {
  is = (spelled_on text lines line payloads (newline ∷ []) s).is ∙ sym (text_more lines line) ∙ sym (append-nil (text_of (lines ++ line ∷ [])));
  are = lines_more lines line s.are plain;
  spelled = spelled_more lines payloads line payload s.spelled says;
  few = omega (arith, length-append payloads (payload ∷ []), few);
}

-- the begun line goes on
pub kept : (x y : Input) (text bytes : List ℕ) → IsRead x text → Lacks newline bytes → y.begun.items ≡ x.begun.items ++ bytes → y.payloads.items ≡ x.payloads.items
    → length x.begun.items + length bytes ≤ most_line → IsRead y (text ++ bytes)
kept x y text bytes r plain begun payloads fits =
    let P : List ℕ → Type 0 = λ b. IsSpelled (text ++ bytes) r.lines b y.payloads.items in
    let Q : List (List ℕ) → Type 0 = λ ps. IsSpelled (text ++ bytes) r.lines (x.begun.items ++ bytes) ps in
    let size : length y.begun.items ≡ length (x.begun.items ++ bytes) = ap (λ (xs : List ℕ). length xs) begun in
    record {
      lines = r.lines;
      spelled = subst P (sym begun) (subst Q (sym payloads) (spelled_on text r.lines x.begun.items x.payloads.items bytes r.spelled));
      plain = subst (Lacks newline) (sym begun) (lacks_both newline x.begun.items bytes r.plain plain);
      fits = omega (arith, size, length-append x.begun.items bytes, fits);
    }

-- it is too long
pub too_long : (x : Input) (text bytes : List ℕ) → IsRead x text → Lacks newline bytes → most_line < length x.begun.items + length bytes → StaysBad (text ++ bytes) (length x.payloads.items + 1)
too_long x text bytes r plain long = λ more.
    let begun = x.begun.items ++ bytes in
    let size = length-append x.begun.items bytes in
    let same = spelled_length r.lines x.payloads.items r.spelled.spelled in
    record {
      lines = r.lines;
      behind = begun ++ more;
      payloads = x.payloads.items;
      spelled = spelled_on (text ++ bytes) r.lines begun x.payloads.items more (spelled_on text r.lines x.begun.items x.payloads.items bytes r.spelled);
      number_is = omega (arith, same);
      bad = (
        not_nil (begun ++ more) (omega (arith, length-append begun more, size, long)),
        inr (λ line payload begins says.
            let within = begins_within begun more line (lacks_both newline x.begun.items bytes r.plain plain) begins in
            let fits = payload_fits line payload says in
            omega (arith, within, fits, size, long)),
      );
    }

-- it is whole
pub ended : (x y : Input) (text payload : List ℕ) → IsRead x text → IsPayload x.begun.items payload → y.begun.items ≡ [] → y.payloads.items ≡ x.payloads.items ++ payload ∷ []
    → length x.payloads.items < most_payloads → IsRead y (text ++ newline ∷ [])
ended x y text payload r says none payloads few =
    let lines = r.lines ++ x.begun.items ∷ [] in
    let P : List ℕ → Type 0 = λ b. IsSpelled (text ++ newline ∷ []) lines b y.payloads.items in
    let Q : List (List ℕ) → Type 0 = λ ps. IsSpelled (text ++ newline ∷ []) lines [] ps in
    let size : length y.begun.items ≡ 0 = ap (λ (xs : List ℕ). length xs) none in
    record {
      lines = lines;
      spelled = subst P (sym none) (subst Q (sym payloads) (spelled_line text r.lines x.begun.items x.payloads.items payload r.spelled r.plain says few));
      plain = subst (Lacks newline) (sym none) tt;
      fits = omega (arith, size);
    }

number_is : (x : Input) (text : List ℕ) (r : IsRead x text) → length x.payloads.items + 1 ≡ length r.lines + 1
number_is x text r = let same = spelled_length r.lines x.payloads.items r.spelled.spelled in omega (arith, same)

-- it is no good one
pub line_bad : (x : Input) (text : List ℕ) → IsRead x text → IsNoGoodLine x → StaysBad (text ++ newline ∷ []) (length x.payloads.items + 1)
line_bad x text r bad = λ more.
    let grouped : (x.begun.items ++ newline ∷ []) ++ more ≡ x.begun.items ++ newline ∷ more = append_assoc x.begun.items (newline ∷ []) more in
    let size : length ((x.begun.items ++ newline ∷ []) ++ more) ≡ length (x.begun.items ++ newline ∷ more) = ap (λ (xs : List ℕ). length xs) grouped in
    record {
      lines = r.lines;
      behind = (x.begun.items ++ newline ∷ []) ++ more;
      payloads = x.payloads.items;
      spelled = spelled_on (text ++ newline ∷ []) r.lines (x.begun.items ++ newline ∷ []) x.payloads.items more (spelled_on text r.lines x.begun.items x.payloads.items (newline ∷ []) r.spelled);
      number_is = number_is x text r;
      bad = (not_nil ((x.begun.items ++ newline ∷ []) ++ more) (omega (arith, size, length-append x.begun.items (newline ∷ more))), by_bad more bad);
    }
  where
    by_bad : (more : List ℕ) → IsNoGoodLine x
        → (length r.lines ≡ most_payloads) ⊎ ((line payload : List ℕ) → BeginsWith ((x.begun.items ++ newline ∷ []) ++ more) line → IsPayload line payload → ⊥)
    by_bad more (inl full) = let same = spelled_length r.lines x.payloads.items r.spelled.spelled in inl (omega (arith, same, full))
    by_bad more (inr none) = inr (λ line payload begins says.
        let B : List ℕ → Type 0 = λ whole. BeginsWith whole line in
        let is : line ≡ x.begun.items = begins_at x.begun.items more line r.plain (subst B (append_assoc x.begun.items (newline ∷ []) more) begins) in
        let P : List ℕ → Type 0 = λ l. IsPayload l payload in
        none payload (subst P is says))

-- the last line, without its newline, is no good one
pub last_bad : (x : Input) (text : List ℕ) → IsRead x text → 0 < length x.begun.items → IsNoGoodLine x → IsBadLine text (length x.payloads.items + 1)
last_bad x text r some bad = record {
  lines = r.lines;
  behind = x.begun.items;
  payloads = x.payloads.items;
  spelled = r.spelled;
  number_is = number_is x text r;
  bad = (not_nil x.begun.items some, by_bad bad);
}
  where
    by_bad : IsNoGoodLine x → (length r.lines ≡ most_payloads) ⊎ ((line payload : List ℕ) → BeginsWith x.begun.items line → IsPayload line payload → ⊥)
    by_bad (inl full) = let same = spelled_length r.lines x.payloads.items r.spelled.spelled in inl (omega (arith, same, full))
    by_bad (inr none) = inr (λ line payload begins says.
        let is : line ≡ x.begun.items = begins_last x.begun.items line r.plain begins in
        let P : List ℕ → Type 0 = λ l. IsPayload l payload in
        none payload (subst P is says))

-- ---- the end of an input

-- its last line lacks it
input_last : (x : Input) (text : List ℕ) → IsRead x (text ++ newline ∷ []) → x.begun.items ≡ [] → IsInput text x.payloads.items
input_last x text r none = record {
  lines = r.lines;
  are = r.spelled.are;
  spelled = r.spelled.spelled;
  few = r.spelled.few;
  is = inr (r.spelled.is ∙ ap (λ (xs : List ℕ). text_of r.lines ++ xs) none ∙ append-nil (text_of r.lines));
}

pub ends : (x y : Input) (text : List ℕ) (answer : Result (Unit {0}) Stop) → IsRead x text → 0 < length x.begun.items → ReadsOn (text ++ newline ∷ []) answer y → LineEnds x answer y → EndsTo text answer y
ends x y text (Ok done) r some reads e = input_last y text reads e
ends x y text (Err stop.BadLine) r some reads e =
    let P : List (List ℕ) → Type 0 = λ payloads. IsBadLine text (length payloads + 1) in
    subst P (sym e.0) (last_bad x text r some e.1)
ends x y text (Err stop.WriteFault) r some reads e = reads
ends x y text (Err stop.NoMemory) r some reads e = tt

-- ---- grouped otherwise

-- it is bad whatever follows
pub stays_on : (text front back all : List ℕ) (why : Stop) (x : Input) → all ≡ front ++ back → ReadsOn (text ++ front) (Err why) x → ReadsOn (text ++ all) (Err why) x
stays_on text front back all stop.BadLine x e reads = λ more.
    let P : List ℕ → Type 0 = λ whole. IsBadLine whole (length x.payloads.items + 1) in
    let is : (text ++ front) ++ (back ++ more) ≡ (text ++ all) ++ more =
    sym (append_assoc (text ++ front) back more) ∙ ap (λ (xs : List ℕ). xs ++ more) (append_assoc text front back ∙ ap (λ (xs : List ℕ). text ++ xs) (sym e)) in
    subst P is (reads (back ++ more))
stays_on text front back all stop.WriteFault x e reads = reads
stays_on text front back all stop.NoMemory x e reads = tt

pub regrouped : (text front back all : List ℕ) (answer : Result (Unit {0}) Stop) (x : Input) → all ≡ front ++ back → ReadsOn ((text ++ front) ++ back) answer x → ReadsOn (text ++ all) answer x
regrouped text front back all answer x e reads =
    let P : List ℕ → Type 0 = λ whole. ReadsOn whole answer x in
    subst P (append_assoc text front back ∙ ap (λ (xs : List ℕ). text ++ xs) (sym e)) reads

-- the bytes up to a newline and those behind it
pub cut_here : (bytes front rest end behind : List ℕ) → bytes ≡ front ++ rest → rest ≡ end ++ newline ∷ behind → bytes ≡ (front ++ (end ++ newline ∷ [])) ++ behind
cut_here bytes front rest end behind e cut =
    let is : rest ≡ (end ++ newline ∷ []) ++ behind = cut ∙ sym (append_assoc end (newline ∷ []) behind) in
    e ∙ ap (λ (xs : List ℕ). front ++ xs) is ∙ sym (append_assoc front (end ++ newline ∷ []) behind)

-- what a line was read behind what came before it
pub line_read : (text front end : List ℕ) (answer : Result (Unit {0}) Stop) (x : Input) → ReadsOn (((text ++ front) ++ end) ++ newline ∷ []) answer x → ReadsOn (text ++ (front ++ (end ++ newline ∷ []))) answer x
line_read text front end answer x reads =
    let P : List ℕ → Type 0 = λ whole. ReadsOn whole answer x in
    subst P (append_assoc (text ++ front) end (newline ∷ []) ∙ append_assoc text front (end ++ newline ∷ [])) reads
