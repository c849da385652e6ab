-- Texts that heads begin with alike.
use Rattle.std.proofs.Common.{◌≡◌, true, ℕ, List, [], ◌∷◌, ◌++◌, All, sym, ap, ◌∙◌, subst, arith, append_assoc, length-append}
use Rattle.std.specs.Prelude.{flat_map}
use Rattle.std.proofs.lemmas.List.Elements.{All-append, All-head, All-tail, All-cons}
use Rattle.std.proofs.lemmas.Grind.{flat_map-append}
use Rattle.httparse.specs.Grammar.{is_token_byte, is_value_byte, AllPass, IsToken, LineEnd, print_end, print_blank, Field, IsField, print_field}
use Rattle.httparse.specs.Pieces.{Then, Stops, is_newline, Blank, Method, Target, Version, Newline, FieldLine, FieldLines, Section, RequestStart}
use Rattle.httparse.proofs.PieceLemmas.{Blank_deterministic, Method_deterministic, Target_deterministic, RequestStart_deterministic, Section_skip, newline_not_stopped, print_end_unique, Stops_token, Stops_value, colon_ends_token, space_ends_token, print_field-append}
use Rattle.httparse.proofs.GrammarLemmas.{RequestTree, request_head, request_pieces, request_from_pieces}
use Rattle.httparse.proofs.RunLemmas.{run_unique}
use Rattle.mq_head.specs.Alike.{HeadBefore, Alike}
use Rattle.mq_head.proofs.TextLemmas.{run_begins, pass_front}

-- ---- what holds of all

pub alike_self : (a : List ℕ) → Alike a a
alike_self a = record { there = λ more rest h. h; back = λ more rest h. h }

pub alike_sym : (a b : List ℕ) → Alike a b → Alike b a
alike_sym a b x = record { there = x.back; back = x.there }

pub alike_trans : (a b c : List ℕ) → Alike a b → Alike b c → Alike a c
alike_trans a b c x y = record {
  there = λ more rest h. y.there more rest (x.there more rest h);
  back = λ more rest h. x.back more rest (y.back more rest h);
}

before_append : (a b p : List ℕ) → ((more rest : List ℕ) → HeadBefore (a ++ more) rest → HeadBefore (b ++ more) rest)
    → (more rest : List ℕ) → HeadBefore ((a ++ p) ++ more) rest → HeadBefore ((b ++ p) ++ more) rest
before_append a b p step more rest h =
    subst (λ t. HeadBefore t rest) (sym (append_assoc b p more))
    (step (p ++ more) rest (subst (λ t. HeadBefore t rest) (append_assoc a p more) h))

pub alike_append : (a b p : List ℕ) → Alike a b → Alike (a ++ p) (b ++ p)
alike_append a b p x = record { there = before_append a b p x.there; back = before_append b a p x.back }

-- ---- whole lines

abbrev pub StartTree : Type 0
StartTree = List LineEnd × (List ℕ × (List ℕ × (ℕ × LineEnd)))

-- a request line and field lines
pub record AreLines (x : List ℕ) : Type 0 where
  pub start : StartTree
  pub fields : List Field
  pub reads : (more : List ℕ) → Then RequestStart FieldLines (start, fields) (x ++ more) more

-- behind them a head needs a section
section_of : (x : List ℕ) → AreLines x → (more rest : List ℕ) → HeadBefore (x ++ more) rest
    → (s : List Field × LineEnd) × Section s more rest
section_of x lines more rest h =
    let pieces = request_pieces (x ++ more) h.0 rest h.1 in
    let read = lines.reads more in
    let same = RequestStart_deterministic.unique _ _ _ _ _ pieces.1 read.1 in
    let section = subst (λ (m : List ℕ). Section (h.0.fields, h.0.last) m rest) same.1 pieces.2 in
    let left = Section_skip lines.fields h.0.fields h.0.last read.0 more rest read.2 section in
    ((left.0, h.0.last), left.2)

sections_join : (fs gs : List Field) (last : LineEnd) (text middle rest : List ℕ) → FieldLines fs text middle
    → Section (gs, last) middle rest → Section (fs ++ gs, last) text rest
sections_join fs gs last text middle rest x y = (
  All-append IsField fs gs x.0 y.0,
  x.1 ∙ rw (y.1, flat_map-append) (simp append_assoc),
)

head_of : (x : List ℕ) → AreLines x → (more rest : List ℕ) (s : List Field × LineEnd) → Section s more rest
    → HeadBefore (x ++ more) rest
head_of x lines more rest s section =
    let read = lines.reads more in
    let tree : RequestTree = (lines.start, (lines.fields ++ s.0, s.1)) in (
      request_head tree,
      request_from_pieces (x ++ more) tree rest (read.0, read.1, sections_join lines.fields s.0 s.1 read.0 more rest read.2 section),
    )

-- a section begins with one text where it begins with the other
abbrev pub AreSwapped : List ℕ → List ℕ → Type 0
AreSwapped n m = (more rest : List ℕ) (s : List Field × LineEnd) → Section s (n ++ more) rest
    → (t : List Field × LineEnd) × Section t (m ++ more) rest

lines_before : (x y n m : List ℕ) → AreLines x → AreLines y → AreSwapped n m
    → (more rest : List ℕ) → HeadBefore ((x ++ n) ++ more) rest → HeadBefore ((y ++ m) ++ more) rest
lines_before x y n m lx ly swapped more rest h =
    let s = section_of x lx (n ++ more) rest (subst (λ t. HeadBefore t rest) (append_assoc x n more) h) in
    let t = swapped more rest s.0 s.1 in
    subst (λ t. HeadBefore t rest) (sym (append_assoc y m more)) (head_of y ly (m ++ more) rest t.0 t.1)

pub lines_alike : (x y n m : List ℕ) → AreLines x → AreLines y → AreSwapped n m → AreSwapped m n → Alike (x ++ n) (y ++ m)
lines_alike x y n m lx ly nm mn = record { there = lines_before x y n m lx ly nm; back = lines_before y x m n ly lx mn }

pub same_swapped : (n : List ℕ) → AreSwapped n n
same_swapped n more rest s section = (s, section)

-- ---- unfinished field lines

-- the first field line of a section
section_head : (g : Field) (gs : List Field) (last : LineEnd) (text rest : List ℕ) → Section (g ∷ gs, last) text rest
    → FieldLine g text ((flat_map print_field gs ++ print_end last) ++ rest)
section_head g gs last text rest x = (
  All-head IsField g gs x.0,
  x.1 ∙ ap (λ (t : List ℕ). t ++ rest) (append_assoc (print_field g) (flat_map print_field gs) (print_end last))
      ∙ append_assoc (print_field g) (flat_map print_field gs ++ print_end last) rest,
)

section_push : (f : Field) (gs : List Field) (last : LineEnd) (text rest : List ℕ) → All IsField gs
    → FieldLine f text ((flat_map print_field gs ++ print_end last) ++ rest) → Section (f ∷ gs, last) text rest
section_push f gs last text rest are line = (
  All-cons IsField f gs line.0 are,
  line.1 ∙ sym (append_assoc (print_field f) (flat_map print_field gs ++ print_end last) rest)
      ∙ ap (λ (t : List ℕ). t ++ rest) (sym (append_assoc (print_field f) (flat_map print_field gs) (print_end last))),
)

-- any two parts of names
pub names_swapped : (n m : List ℕ) → IsToken n → IsToken m → AreSwapped n m
names_swapped n m tn tm more rest s section = by_fields s.0 s.1 section
  where
    by_fields : (gs : List Field) (last : LineEnd) → Section (gs, last) (n ++ more) rest
        → (t : List Field × LineEnd) × Section t (m ++ more) rest
    by_fields [] last x = absurd (newline_not_stopped last rest (n ++ more) (sym x.1) (Stops_token n more tn.0 tn.1))
    by_fields (g ∷ gs) last x =
        let behind = (flat_map print_field gs ++ print_end last) ++ rest in
        let value = g.raw ++ (print_end g.end ++ behind) in
        let line = section_head g gs last (n ++ more) rest x in
        let cut = run_begins is_token_byte n g.name more (58 ∷ value) tn.1 colon_ends_token
        (line.1 ∙ print_field-append g behind) in
        let own = pass_front is_token_byte n cut.0 (subst (AllPass is_token_byte) cut.1 line.0.name.1) in
        let f : Field = record { name = m ++ cut.0; raw = g.raw; end = g.end } in
        let is : IsField f = record {
          name = (omega (arith, tm.0, length-append m cut.0), All-append (λ v. is_token_byte v ≡ true) m cut.0 tm.1 own.1);
          raw = line.0.raw;
        } in
        let text : m ++ more ≡ print_field f ++ behind =
        ap (λ (t : List ℕ). m ++ t) cut.2 ∙ sym (append_assoc m cut.0 (58 ∷ value)) ∙ sym (print_field-append f behind) in
        ((f ∷ gs, last), section_push f gs last (m ++ more) rest (All-tail IsField g gs x.0) (is, text))

-- any two names with parts of values
pub values_swapped : (n v m u : List ℕ) → IsToken n → AllPass is_value_byte v → IsToken m → AllPass is_value_byte u
    → AreSwapped (n ++ 58 ∷ v) (m ++ 58 ∷ u)
values_swapped n v m u tn pv tm pu more rest s section = by_fields s.0 s.1 section
  where
    by_fields : (gs : List Field) (last : LineEnd) → Section (gs, last) ((n ++ 58 ∷ v) ++ more) rest
        → (t : List Field × LineEnd) × Section t ((m ++ 58 ∷ u) ++ more) rest
    by_fields [] last x =
        absurd (newline_not_stopped last rest ((n ++ 58 ∷ v) ++ more) (sym x.1)
        (subst (Stops is_newline) (sym (append_assoc n (58 ∷ v) more)) (Stops_token n ((58 ∷ v) ++ more) tn.0 tn.1)))
    by_fields (g ∷ gs) last x =
        let behind = (flat_map print_field gs ++ print_end last) ++ rest in
        let ends = print_end g.end ++ behind in
        let line = section_head g gs last ((n ++ 58 ∷ v) ++ more) rest x in
        let same = run_unique is_token_byte n g.name (58 ∷ (v ++ more)) (58 ∷ (g.raw ++ ends)) tn.1 line.0.name.1
        colon_ends_token colon_ends_token
        (sym (append_assoc n (58 ∷ v) more) ∙ line.1 ∙ print_field-append g behind) in
        let values : v ++ more ≡ g.raw ++ ends = let e = same.1 in cc in
        let cut = run_begins is_value_byte v g.raw more ends pv (Stops_value g.end behind) values in
        let own = pass_front is_value_byte v cut.0 (subst (AllPass is_value_byte) cut.1 line.0.raw) in
        let f : Field = record { name = m; raw = u ++ cut.0; end = g.end } in
        let is : IsField f = record { name = tm; raw = All-append (λ b. is_value_byte b ≡ true) u cut.0 pu own.1 } in
        let text : (m ++ 58 ∷ u) ++ more ≡ print_field f ++ behind =
        append_assoc m (58 ∷ u) more
        ∙ ap (λ (t : List ℕ). m ++ 58 ∷ (u ++ t)) cut.2
        ∙ ap (λ (t : List ℕ). m ++ 58 ∷ t) (sym (append_assoc u cut.0 ends))
        ∙ sym (print_field-append f behind) in
        ((f ∷ gs, last), section_push f gs last ((m ++ 58 ∷ u) ++ more) rest (All-tail IsField g gs x.0) (is, text))

-- ---- the unfinished first line

-- empty lines, and those behind them
blank_left : (b a : List LineEnd) (more mid : List ℕ) → Stops is_newline mid → print_blank b ++ more ≡ print_blank a ++ mid
    → (c : List LineEnd) × (more ≡ print_blank c ++ mid)
blank_left [] a more mid stops e = (a, e)
blank_left (x ∷ b) [] more mid stops e =
    absurd (newline_not_stopped x _ mid (sym (append_assoc _ (print_blank b) more) ∙ e) stops)
blank_left (x ∷ b) (y ∷ a) more mid stops e =
    let heads = print_end_unique x y _ _
    (sym (append_assoc _ (print_blank b) more) ∙ e ∙ append_assoc _ (print_blank a) mid) in
    blank_left b a more mid stops heads.1

blanks_before : (b a : List LineEnd) (more rest : List ℕ) → HeadBefore (print_blank b ++ more) rest → HeadBefore (print_blank a ++ more) rest
blanks_before b a more rest h =
    let pieces = request_pieces (print_blank b ++ more) h.0 rest h.1 in
    let blank = pieces.1.1 in
    let left = blank_left b h.0.blank more pieces.1.0 blank.1 blank.0 in
    let tree : RequestTree = ((a ++ left.0, (h.0.method, (h.0.target, (h.0.minor, h.0.line_end)))), (h.0.fields, h.0.last)) in
    let text : print_blank a ++ more ≡ print_blank (a ++ left.0) ++ pieces.1.0 =
    ap (λ (t : List ℕ). print_blank a ++ t) left.1 ∙ sym (append_assoc (print_blank a) (print_blank left.0) pieces.1.0)
    ∙ ap (λ (t : List ℕ). t ++ pieces.1.0) (sym (flat_map-append print_end a left.0)) in
    (request_head tree, request_from_pieces (print_blank a ++ more) tree rest (pieces.0, (pieces.1.0, (text, blank.1), pieces.1.2), pieces.2))

pub blanks_alike : (b a : List LineEnd) → Alike (print_blank b) (print_blank a)
blanks_alike b a = record { there = blanks_before b a; back = blanks_before a b }

-- empty lines and a part of a method
methods_before : (b a : List LineEnd) (n m : List ℕ) → IsToken n → IsToken m
    → (more rest : List ℕ) → HeadBefore ((print_blank b ++ n) ++ more) rest → HeadBefore ((print_blank a ++ m) ++ more) rest
methods_before b a n m tn tm more rest h =
    let pieces = request_pieces ((print_blank b ++ n) ++ more) h.0 rest h.1 in
    let blank = pieces.1.1 in
    let method = pieces.1.2.1 in
    let own : Blank b ((print_blank b ++ n) ++ more) (n ++ more) =
    (append_assoc (print_blank b) n more, Stops_token n more tn.0 tn.1) in
    let same = Blank_deterministic.unique b h.0.blank ((print_blank b ++ n) ++ more) (n ++ more) pieces.1.0 own blank in
    let cut = run_begins is_token_byte n h.0.method more (32 ∷ pieces.1.2.0) tn.1 space_ends_token (same.1 ∙ method.2) in
    let pass = pass_front is_token_byte n cut.0 (subst (AllPass is_token_byte) cut.1 method.1) in
    let tree : RequestTree = ((a, (m ++ cut.0, (h.0.target, (h.0.minor, h.0.line_end)))), (h.0.fields, h.0.last)) in
    let there : Blank a ((print_blank a ++ m) ++ more) (m ++ more) =
    (append_assoc (print_blank a) m more, Stops_token m more tm.0 tm.1) in
    let word : Method (m ++ cut.0) (m ++ more) pieces.1.2.0 = (
      omega (arith, tm.0, length-append m cut.0),
      All-append (λ v. is_token_byte v ≡ true) m cut.0 tm.1 pass.1,
      ap (λ (t : List ℕ). m ++ t) cut.2 ∙ sym (append_assoc m cut.0 (32 ∷ pieces.1.2.0)),
    ) in (
      request_head tree,
      request_from_pieces ((print_blank a ++ m) ++ more) tree rest
          (pieces.0, (m ++ more, there, (pieces.1.2.0, word, pieces.1.2.2)), pieces.2),
    )

pub methods_alike : (b a : List LineEnd) (n m : List ℕ) → IsToken n → IsToken m
    → Alike (print_blank b ++ n) (print_blank a ++ m)
methods_alike b a n m tn tm = record { there = methods_before b a n m tn tm; back = methods_before a b m n tm tn }

-- empty lines, a method and a target, each with its space
pub record AreWords (x : List ℕ) : Type 0 where
  pub blank : List LineEnd
  pub method : List ℕ
  pub target : List ℕ
  pub reads : (more : List ℕ) → Then Blank (Then Method Target) (blank, (method, target)) (x ++ more) more

words_before : (x y : List ℕ) → AreWords x → AreWords y → (more rest : List ℕ)
    → HeadBefore (x ++ more) rest → HeadBefore (y ++ more) rest
words_before x y wx wy more rest h =
    let pieces = request_pieces (x ++ more) h.0 rest h.1 in
    let read = wx.reads more in
    let give = wy.reads more in
    let start = pieces.1 in
    let same1 = Blank_deterministic.unique _ _ _ _ _ start.1 read.1 in
    let method = subst (λ (m : List ℕ). Method h.0.method m start.2.0) same1.1 start.2.1 in
    let same2 = Method_deterministic.unique _ _ _ _ _ method read.2.1 in
    let target = subst (λ (m : List ℕ). Target h.0.target m start.2.2.0) same2.1 start.2.2.1 in
    let same3 = Target_deterministic.unique _ _ _ _ _ target read.2.2 in
    let version = subst (λ (m : List ℕ). Then Version Newline (h.0.minor, h.0.line_end) m pieces.0) same3.1 start.2.2.2 in
    let tree : RequestTree = ((wy.blank, (wy.method, (wy.target, (h.0.minor, h.0.line_end)))), (h.0.fields, h.0.last)) in (
      request_head tree,
      request_from_pieces (y ++ more) tree rest
          (pieces.0, (give.0, give.1, (give.2.0, give.2.1, (more, give.2.2, version))), pieces.2),
    )

pub words_alike : (x y : List ℕ) → AreWords x → AreWords y → Alike x y
words_alike x y wx wy = record { there = words_before x y wx wy; back = words_before y x wy wx }
