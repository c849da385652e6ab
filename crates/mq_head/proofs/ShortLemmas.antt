-- A text that can become a head is like its short text.
use Rattle.std.proofs.Common.{◌≡◌, ℕ, zero, suc, ◌<◌, ◌≤◌, ◌⊎◌, Bool, true, false, cond, List, [], ◌∷◌, ◌++◌, length, take, nat_lt, ◌==◌, All, Option, Some, None, codes, refl, sym, ap, ◌∙◌, subst, arith, append_assoc, append-nil, length-append, inl, inr}
use Rattle.std.specs.Prelude.{flat_map}
use Rattle.std.proofs.lemmas.List.Elements.{All-nil, All-cons, All-head, All-tail, All-append}
use Rattle.std.proofs.lemmas.List.Sums.{AllPass-from_list_all}
use Rattle.std.proofs.lemmas.Bool.{cond-false, ltb-true}
use Rattle.std.specs.List.{list_all}
use Rattle.httparse.specs.Grammar.{is_token_byte, is_uri_byte, is_value_byte, AllPass, IsToken, IsRequestHead, LineEnd, crlf, lf, print_end, print_blank, print_version, Field, IsField, print_field, print_section, RequestHead, ReadsRequest, HasNoRequest}
use Rattle.std.specs.Prelude.{IsUtf8}
use Rattle.std.proofs.lemmas.Str.{IsUtf8-from_ascii}
use Rattle.std.proofs.lemmas.Str.Ascii.{IsAscii-cons, IsAscii-nil}
use Rattle.httparse.specs.Pieces.{Section}
use Rattle.httparse.proofs.PieceLemmas.{Stops_token, colon_ends_token, space_ends_token}
use Rattle.httparse.proofs.GrammarLemmas.{print_request-append}
use Rattle.mq_head.specs.Heads.{skip_line_bytes, ends_in_target, CanBecomeHead}
use Rattle.mq_head.specs.Alike.{Alike, IsOpen, HeadBefore, Stays, is_in_run}
use Rattle.mq_head.specs.Short.{has, behind, last_line, behind_next, behind_target, short_line, short_version, short_start, short, word_run, line_run, run_behind, run_start, run_of}
use Rattle.std.proofs.Common.{Vec, Global}
use Rattle.mq_head.specs.declared.place.Place.TheVariants.{Behind}
use Rattle.mq_head.specs.Places.{IsBehind, StaysOpen}
use Rattle.mq_head.specs.declared.run.Run.{Run}
use Rattle.mq_head.specs.declared.run.Run.TheVariants.{Ended, Token, Value}
use Rattle.mq_head.proofs.BytesLemmas.{and_parts, skip_blank, skip_token, skip_start, target_ends}
use Rattle.mq_head.proofs.TextLemmas.{fails_other, begins_two, pass_front, has_behind_run, behind_run, has_none, behind_none, has_there, has_front, behind_lacking, last_line_whole, last_line_on}
use Rattle.mq_head.proofs.AlikeLemmas.{alike_sym, alike_trans, alike_append, AreLines, AreSwapped, lines_alike, same_swapped, names_swapped, values_swapped, blanks_alike, methods_alike, AreWords, words_alike}

-- ---- bytes that have no line end, no colon and no space

token_no_lf : is_token_byte 10 ≡ false
unfolding is_token_byte
token_no_lf = refl

token_no_cr : is_token_byte 13 ≡ false
unfolding is_token_byte
token_no_cr = refl

letter : is_token_byte 65 ≡ true
unfolding is_token_byte
letter = refl

letter_token : IsToken (65 ∷ [])
letter_token = (omega arith, All-cons (λ v. is_token_byte v ≡ true) 65 [] letter (All-nil (λ v. is_token_byte v ≡ true)))

first_token : (n : ℕ) (ns : List ℕ) → IsToken (n ∷ ns) → IsToken (n ∷ [])
first_token n ns t = (
  omega arith,
  All-cons (λ v. is_token_byte v ≡ true) n [] (All-head (λ v. is_token_byte v ≡ true) n ns t.1) (All-nil (λ v. is_token_byte v ≡ true)),
)

-- ---- an unfinished field line

-- no line, a CR, a part of a name, or a name with a part of a value
pub data IsLine (y : List ℕ) : Type 0 where
  at_start : y ≡ [] → IsLine y
  at_end : y ≡ 13 ∷ [] → IsLine y
  in_name : IsToken y → IsLine y
  in_value : (n v : List ℕ) → IsToken n → AllPass is_value_byte v → y ≡ n ++ 58 ∷ v → IsLine y
  behind_value : (n v : List ℕ) → IsToken n → AllPass is_value_byte v → y ≡ (n ++ 58 ∷ v) ++ 13 ∷ [] → IsLine y

line_lacks_lf : (y : List ℕ) → IsLine y → has 10 y ≡ false
line_lacks_lf y (at_start e) = ap (has 10) e
line_lacks_lf y (at_end e) = ap (has 10) e
line_lacks_lf y (in_name t) = has_none is_token_byte 10 token_no_lf y t.1
line_lacks_lf y (in_value n v tn pv e) =
    ap (has 10) e ∙ has_behind_run is_token_byte 10 token_no_lf n (58 ∷ v) tn.1 ∙ has_none is_value_byte 10 refl v pv
line_lacks_lf y (behind_value n v tn pv e) =
    ap (has 10) e ∙ ap (has 10) (append_assoc n (58 ∷ v) (13 ∷ []))
    ∙ has_behind_run is_token_byte 10 token_no_lf n (58 ∷ (v ++ 13 ∷ [])) tn.1
    ∙ has_behind_run is_value_byte 10 refl v (13 ∷ []) pv

short_line_is : (y : List ℕ) (colon cr : Bool) → has 58 y ≡ colon → has 13 y ≡ cr
    → short_line y ≡ cond colon (cond cr (codes "A:\r") (codes "A:")) (take 1 y)
unfolding short_line
short_line_is y colon cr a b =
    ap (λ t. cond t (cond (has 13 y) (codes "A:\r") (codes "A:")) (take 1 y)) a
    ∙ ap (λ t. cond colon (cond t (codes "A:\r") (codes "A:")) (take 1 y)) b

-- ---- runs

token_run : (piece : List ℕ) → is_in_run Token piece ≡ true → IsToken piece
token_run piece e =
    let parts = and_parts (nat_lt 0 (length piece)) (list_all is_token_byte piece) e in
    (ltb-true 0 (length piece) parts.0, AllPass-from_list_all is_token_byte piece parts.1)

more_token : (n piece : List ℕ) → IsToken n → is_in_run Token piece ≡ true → IsToken (n ++ piece)
more_token n piece token e = (
  omega (arith, token.0, length-append n piece),
  All-append (λ v. is_token_byte v ≡ true) n piece token.1 (token_run piece e).1,
)

more_value : (v piece : List ℕ) → AllPass is_value_byte v → is_in_run Value piece ≡ true → AllPass is_value_byte (v ++ piece)
more_value v piece pass e =
    All-append (λ b. is_value_byte b ≡ true) v piece pass (AllPass-from_list_all is_value_byte piece e)

never_runs : (x : List ℕ) → Stays Ended x
never_runs x piece e = absurd (cc)

word_run_token : (y : List ℕ) → IsToken y → word_run y ≡ Token
word_run_token [] token = absurd (omega (arith, token.0))
word_run_token (n ∷ ns) token =
    cond-false (n == 13) Ended Token
    (fails_other is_token_byte 13 n token_no_cr (All-head (λ v. is_token_byte v ≡ true) n ns token.1))

line_run_is : (y : List ℕ) (colon cr : Bool) → has 58 y ≡ colon → has 13 y ≡ cr
    → line_run y ≡ cond colon (cond cr Ended Value) (word_run y)
line_run_is y colon cr a b =
    ap (λ t. cond t (cond (has 13 y) Ended Value) (word_run y)) a ∙ ap (λ t. cond colon (cond t Ended Value) (word_run y)) b

swapped_append : (n m p : List ℕ) → AreSwapped n m → AreSwapped (n ++ p) (m ++ p)
swapped_append n m p swapped more rest s section =
    let t = swapped (p ++ more) rest s (subst (λ b. Section s b rest) (append_assoc n p more) section) in
    (t.0, subst (λ b. Section t.0 b rest) (sym (append_assoc m p more)) t.1)

-- what is more of the run can go in and out
abbrev pub RunsOn : Run → List ℕ → Type 0
RunsOn run y = (piece : List ℕ) → is_in_run run piece ≡ true → AreSwapped y (y ++ piece) × AreSwapped (y ++ piece) y

never_on : (y : List ℕ) → RunsOn Ended y
never_on y piece e = absurd (cc)

-- the short text of a line, and its run
pub record IsShort (y t : List ℕ) : Type 0 where
  pub is : short_line y ≡ t
  pub runs : RunsOn (line_run y) y
  pub there : AreSwapped y t
  pub back : AreSwapped t y

short_value : (n v : List ℕ) → IsToken n → AllPass is_value_byte v → IsShort (n ++ 58 ∷ v) (65 ∷ 58 ∷ [])
short_value n v tn pv =
    let on : RunsOn Value (n ++ 58 ∷ v) = λ piece e.
    let more = more_value v piece pv e in
    let text = append_assoc n (58 ∷ v) piece in (
      subst (λ b. AreSwapped (n ++ 58 ∷ v) b) (sym text) (values_swapped n v n (v ++ piece) tn pv tn more),
      subst (λ b. AreSwapped b (n ++ 58 ∷ v)) (sym text) (values_swapped n (v ++ piece) n v tn more tn pv),
    ) in
    let lacks = has_behind_run is_token_byte 13 token_no_cr n (58 ∷ v) tn.1 ∙ has_none is_value_byte 13 refl v pv in
    record {
      is = short_line_is (n ++ 58 ∷ v) true false (has_there 58 n v refl) lacks;
      runs = subst (λ r. RunsOn r (n ++ 58 ∷ v)) (sym (line_run_is (n ++ 58 ∷ v) true false (has_there 58 n v refl) lacks)) on;
      there = values_swapped n v (65 ∷ []) [] tn pv letter_token (All-nil (λ b. is_value_byte b ≡ true));
      back = values_swapped (65 ∷ []) [] n v letter_token (All-nil (λ b. is_value_byte b ≡ true)) tn pv;
    }

short_behind_value : (n v : List ℕ) → IsToken n → AllPass is_value_byte v
    → IsShort ((n ++ 58 ∷ v) ++ 13 ∷ []) (65 ∷ 58 ∷ 13 ∷ [])
short_behind_value n v tn pv =
    let value = short_value n v tn pv in
    let colon = ap (has 58) (append_assoc n (58 ∷ v) (13 ∷ [])) ∙ has_there 58 n (v ++ 13 ∷ []) refl in
    let y = (n ++ 58 ∷ v) ++ 13 ∷ [] in
    record {
      runs = subst (λ r. RunsOn r y) (sym (line_run_is y true true colon (has_there 13 (n ++ 58 ∷ v) [] refl))) (never_on y);
      is = short_line_is ((n ++ 58 ∷ v) ++ 13 ∷ []) true true colon (has_there 13 (n ++ 58 ∷ v) [] refl);
      there = swapped_append (n ++ 58 ∷ v) (65 ∷ 58 ∷ []) (13 ∷ []) value.there;
      back = swapped_append (65 ∷ 58 ∷ []) (n ++ 58 ∷ v) (13 ∷ []) value.back;
    }

short_name : (y : List ℕ) → IsToken y → (t : List ℕ) × IsShort y t
short_name [] token = absurd (omega (arith, token.0))
short_name (n ∷ ns) token =
    let y = n ∷ ns in
    let no_colon = has_none is_token_byte 58 colon_ends_token y token.1 in
    let on : RunsOn Token y = λ piece e.
    let more = more_token y piece token e in (names_swapped y (y ++ piece) token more, names_swapped (y ++ piece) y more token) in (
      n ∷ [],
      record {
        is = short_line_is y false (has 13 y) no_colon refl;
        runs = subst (λ r. RunsOn r y) (sym (line_run_is y false (has 13 y) no_colon refl ∙ word_run_token y token)) on;
        there = names_swapped y (n ∷ []) token (first_token n ns token);
        back = names_swapped (n ∷ []) y (first_token n ns token) token;
      },
    )

short_start_line : IsShort [] []
short_start_line = record {
  is = short_line_is [] false false refl refl;
  runs = never_on [];
  there = same_swapped [];
  back = same_swapped [];
}

short_end_line : IsShort (13 ∷ []) (13 ∷ [])
short_end_line = record {
  is = short_line_is (13 ∷ []) false true refl refl;
  runs = never_on (13 ∷ []);
  there = same_swapped (13 ∷ []);
  back = same_swapped (13 ∷ []);
}

short_of_line : (y : List ℕ) → IsLine y → (t : List ℕ) × IsShort y t
short_of_line y (at_start e) = (_, subst (λ b. IsShort b []) (sym e) short_start_line)
short_of_line y (at_end e) = (_, subst (λ b. IsShort b (13 ∷ [])) (sym e) short_end_line)
short_of_line y (in_name token) = short_name y token
short_of_line y (in_value n v tn pv e) = (_, subst (λ b. IsShort b (65 ∷ 58 ∷ [])) (sym e) (short_value n v tn pv))
short_of_line y (behind_value n v tn pv e) =
    (_, subst (λ b. IsShort b (65 ∷ 58 ∷ 13 ∷ [])) (sym e) (short_behind_value n v tn pv))

-- it has at most three bytes
first_few : (y : List ℕ) → length (take 1 y) ≤ 1
first_few [] = omega arith
first_few (b ∷ bs) = omega arith

line_few : (y : List ℕ) → length (short_line y) ≤ 3
unfolding short_line
line_few y = by_tests (has 58 y) (has 13 y)
  where
    by_tests : (colon cr : Bool) → length (cond colon (cond cr (codes "A:\r") (codes "A:")) (take 1 y)) ≤ 3
    by_tests true true = omega arith
    by_tests true false = omega arith
    by_tests false cr = omega (arith, first_few y)

-- ---- whole lines in front

regroup : (a b c d e f r : List ℕ)
    → ((a ++ (b ++ 32 ∷ (c ++ 32 ∷ (d ++ e)))) ++ f) ++ r ≡ a ++ (b ++ 32 ∷ (c ++ 32 ∷ (d ++ (e ++ (f ++ r)))))
regroup a b c d e f r = simp append_assoc

abbrev start_text : List LineEnd → List ℕ → List ℕ → ℕ → LineEnd → List ℕ
start_text b m t minor e = print_blank b ++ (m ++ 32 ∷ (t ++ 32 ∷ (print_version minor ++ print_end e)))

lines_of : (b : List LineEnd) (m t : List ℕ) (minor : ℕ) (e : LineEnd) (fs : List Field) → IsToken m
    → (0 < length t) × AllPass is_uri_byte t → IsUtf8 t → minor ≤ 1 → All IsField fs
    → AreLines (start_text b m t minor e ++ flat_map print_field fs)
lines_of b m t minor e fs token uri text version are = record {
  start = (b, (m, (t, (minor, e))));
  fields = fs;
  reads = λ more. (
    flat_map print_field fs ++ more,
    (
      _,
      (
        regroup (print_blank b) m t (print_version minor) (print_end e) (flat_map print_field fs) more,
        Stops_token m _ token.0 token.1,
      ),
      (_, (token.0, token.1, refl), (_, ((uri.0, uri.1, refl), text), (_, (version, refl), refl))),
    ),
    (are, refl),
  );
}

slash_uri : AllPass is_uri_byte (47 ∷ [])
slash_uri = All-cons (λ v. is_uri_byte v ≡ true) 47 [] refl (All-nil (λ v. is_uri_byte v ≡ true))

slash_text : IsUtf8 (47 ∷ [])
slash_text = IsUtf8-from_ascii _ (IsAscii-cons 47 [] (omega arith) IsAscii-nil)

lines_are : AreLines (codes "A / HTTP/1.1\n")
lines_are = lines_of [] (65 ∷ []) (47 ∷ []) 1 lf [] letter_token (omega arith, slash_uri) slash_text (omega arith) (All-nil IsField)

words_of : (b : List LineEnd) (m t : List ℕ) → IsToken m → (0 < length t) × AllPass is_uri_byte t → IsUtf8 t
    → AreWords (print_blank b ++ (m ++ 32 ∷ (t ++ 32 ∷ [])))
words_of b m t token uri text = record {
  blank = b;
  method = m;
  target = t;
  reads = λ more. (
    m ++ 32 ∷ (t ++ 32 ∷ more),
    (
      append_assoc (print_blank b) (m ++ 32 ∷ (t ++ 32 ∷ [])) more
          ∙ ap (λ (u : List ℕ). print_blank b ++ u) (append_assoc m (32 ∷ (t ++ 32 ∷ [])) more)
          ∙ ap (λ (u : List ℕ). print_blank b ++ (m ++ 32 ∷ u)) (append_assoc t (32 ∷ []) more),
      Stops_token m _ token.0 token.1,
    ),
    (_, (token.0, token.1, refl), ((uri.0, uri.1, refl), text)),
  );
}

words_are : AreWords (codes "A / ")
words_are = words_of [] (65 ∷ []) (47 ∷ []) letter_token (omega arith, slash_uri) slash_text

-- ---- where a text ends that begins a head

end_cut : (e : LineEnd) (x c : List ℕ) → print_end e ≡ x ++ c → 0 < length c → (x ≡ []) ⊎ (x ≡ 13 ∷ [])
end_cut e [] c is some = inl refl
end_cut crlf (a ∷ []) c is some = let same : a ≡ 13 = cc in inr (ap (λ (n : ℕ). n ∷ []) same)
end_cut crlf (a ∷ b ∷ x) c is some = let len = ap length is in absurd (omega (arith, len, some, length-append x c))
end_cut lf (a ∷ x) c is some = let len = ap length is in absurd (omega (arith, len, some, length-append x c))

blank_cut : (b : List LineEnd) (x c : List ℕ) → print_blank b ≡ x ++ c → 0 < length c
    → (a : List LineEnd) × ((x ≡ print_blank a) ⊎ (x ≡ print_blank a ++ 13 ∷ []))
blank_cut [] x c is some = let len = ap length is in absurd (omega (arith, len, some, length-append x c))
blank_cut (e ∷ b) x c is some =
    elim (begins_two x c (print_end e) (print_blank b) (sym is)) [
      | inl s ↦ ([], end_cut e x s.0 s.1 s.2)
      | inr d ↦ (
          let cut = blank_cut b d.0 c (sym d.2) some in (
            e ∷ cut.0,
            elim cut.1 [
              | inl at ↦ inl (d.1 ∙ ap (λ (u : List ℕ). print_end e ++ u) at)
              | inr at ↦ inr (d.1 ∙ ap (λ (u : List ℕ). print_end e ++ u) at ∙ sym (append_assoc (print_end e) (print_blank cut.0) (13 ∷ [])))
            ],
          )
          )
    ]

field_cut : (f : Field) → IsField f → (y c : List ℕ) → print_field f ≡ y ++ c → 0 < length c → IsLine y
field_cut f is y c e some =
    let ends = f.raw ++ print_end f.end in
    let parts : y ++ c ≡ f.name ++ 58 ∷ ends = sym e ∙ append_assoc f.name (58 ∷ f.raw) (print_end f.end) in
    elim (begins_two y c f.name (58 ∷ ends) parts) [ inl s ↦ by_name y s.0 s.1 | inr d ↦ by_colon d.0 d.1 d.2 ]
  where
    by_name : (z d : List ℕ) → f.name ≡ z ++ d → IsLine z
    by_name [] d e = at_start refl
    by_name (k ∷ z) d e =
        in_name (omega arith, (pass_front is_token_byte (k ∷ z) d (subst (AllPass is_token_byte) e is.name.1)).0)

    by_value : (z : List ℕ) → y ≡ f.name ++ 58 ∷ z → z ++ c ≡ f.raw ++ print_end f.end → IsLine y
    by_value z at e =
        elim (begins_two z c f.raw (print_end f.end) e) [
          | inl s ↦ in_value f.name z is.name (pass_front is_value_byte z s.0 (subst (AllPass is_value_byte) s.1 is.raw)).0 at
          | inr d ↦ elim (end_cut f.end d.0 c (sym d.2) some) [
            | inl none ↦ in_value f.name f.raw is.name is.raw (at ∙ ap (λ (u : List ℕ). f.name ++ 58 ∷ u) (d.1 ∙ ap (λ (u : List ℕ). f.raw ++ u) none ∙ append-nil f.raw))
            | inr cr ↦ behind_value f.name f.raw is.name is.raw
                (at ∙ ap (λ (u : List ℕ). f.name ++ 58 ∷ u) (d.1 ∙ ap (λ (u : List ℕ). f.raw ++ u) cr) ∙ sym (append_assoc f.name (58 ∷ f.raw) (13 ∷ [])))
          ]
        ]

    by_colon : (d : List ℕ) → y ≡ f.name ++ d → d ++ c ≡ 58 ∷ (f.raw ++ print_end f.end) → IsLine y
    by_colon [] at e = in_name (subst IsToken (sym (at ∙ append-nil f.name)) is.name)
    by_colon (k ∷ d) at e =
        let colon : k ≡ 58 = cc in
        by_value d (at ∙ ap (λ (n : ℕ). f.name ++ n ∷ d) colon) (cc)

-- field lines, and the unfinished one
pub record SectionCut (x : List ℕ) : Type 0 where
  pub fields : List Field
  pub line : List ℕ
  pub are : All IsField fields
  pub is : x ≡ flat_map print_field fields ++ line
  pub form : IsLine line

section_cut : (fs : List Field) (last : LineEnd) (x more : List ℕ) → 0 < length more → All IsField fs
    → x ++ more ≡ print_section fs last ++ [] → SectionCut x
section_cut [] last x more some are e =
    elim (begins_two x more (print_end last) [] e) [
      | inl s ↦ record { fields = []; line = x; are = All-nil IsField; is = refl; form = elim (end_cut last x s.0 s.1 s.2) [ inl none ↦ at_start none | inr cr ↦ at_end cr ] }
      | inr d ↦ absurd (omega (arith, some, ap length d.2, length-append d.0 more))
    ]
section_cut (f ∷ fs) last x more some are e =
    let later = (flat_map print_field fs ++ print_end last) ++ [] in
    let line : x ++ more ≡ print_field f ++ later =
    e ∙ ap (λ (u : List ℕ). u ++ []) (append_assoc (print_field f) (flat_map print_field fs) (print_end last))
    ∙ append_assoc (print_field f) (flat_map print_field fs ++ print_end last) [] in
    elim (begins_two x more (print_field f) later line) [
      | inl s ↦ record { fields = []; line = x; are = All-nil IsField; is = refl; form = field_cut f (All-head IsField f fs are) x s.0 s.1 s.2 }
      | inr d ↦ (
          let cut = section_cut fs last d.0 more some (All-tail IsField f fs are) d.2 in
          record {
            fields = f ∷ cut.fields;
            line = cut.line;
            are = All-cons IsField f cut.fields (All-head IsField f fs are) cut.are;
            is = d.1 ∙ ap (λ (u : List ℕ). print_field f ++ u) cut.is ∙ sym (append_assoc (print_field f) (flat_map print_field cut.fields) cut.line);
            form = cut.form;
          }
          )
    ]

-- what is left behind whole lines
line_on : (a : List ℕ) (e : LineEnd) (z : List ℕ) → last_line ((a ++ print_end e) ++ z) ≡ last_line z
line_on a lf z = ap last_line (append_assoc a (10 ∷ []) z) ∙ last_line_on a z
line_on a crlf z =
    ap last_line (append_assoc a (13 ∷ 10 ∷ []) z ∙ sym (append_assoc a (13 ∷ []) (10 ∷ z))) ∙ last_line_on (a ++ 13 ∷ []) z

fields_on : (fs : List Field) (z : List ℕ) → last_line (flat_map print_field fs ++ z) ≡ last_line z
fields_on [] z = refl
fields_on (f ∷ fs) z =
    ap last_line (append_assoc (print_field f) (flat_map print_field fs) z)
    ∙ line_on (f.name ++ 58 ∷ f.raw) f.end (flat_map print_field fs ++ z) ∙ fields_on fs z

blanks_on : (b : List LineEnd) (z : List ℕ) → last_line (print_blank b ++ z) ≡ last_line z
blanks_on [] z = refl
blanks_on (e ∷ b) z =
    ap last_line (append_assoc (print_end e) (print_blank b) z) ∙ line_on [] e (print_blank b ++ z) ∙ blanks_on b z

-- ---- each place

-- behind a version, and in one
version_behind : (minor : ℕ) (e : LineEnd) (z : List ℕ) → minor ≤ 1 → behind 10 ((print_version minor ++ print_end e) ++ z) ≡ Some z
version_behind zero crlf z le = refl
version_behind zero lf z le = refl
version_behind (suc zero) crlf z le = refl
version_behind (suc zero) lf z le = refl
version_behind (suc (suc n)) e z le = absurd (omega (arith, le))

version_plain : (minor : ℕ) (z : List ℕ) → minor ≤ 1 → has 10 (print_version minor ++ z) ≡ has 10 z
version_plain zero z le = refl
version_plain (suc zero) z le = refl
version_plain (suc (suc n)) z le = absurd (omega (arith, le))

version_cut : (minor : ℕ) (e : LineEnd) (v c : List ℕ) → minor ≤ 1 → print_version minor ++ print_end e ≡ v ++ c → 0 < length c
    → has 10 v ≡ false
version_cut minor e v c le is some =
    elim (begins_two v c (print_version minor) (print_end e) (sym is)) [
      | inl s ↦ has_front 10 v s.0 (ap (has 10) (sym s.1) ∙ ap (has 10) (sym (append-nil (print_version minor))) ∙ version_plain minor [] le)
      | inr d ↦ ap (has 10) d.1 ∙ version_plain minor d.0 le ∙ elim (end_cut e d.0 c (sym d.2) some) [ inl none ↦ ap (has 10) none | inr cr ↦ ap (has 10) cr ]
    ]

-- the second space
target_behind : (b : List LineEnd) (m t v : List ℕ) → IsToken m → AllPass is_uri_byte t
    → behind_target (skip_line_bytes (print_blank b ++ (m ++ 32 ∷ (t ++ 32 ∷ v)))) ≡ Some v
target_behind b m t v token uri =
    ap behind_target (skip_start b m (32 ∷ (t ++ 32 ∷ v)) token)
    ∙ ap (behind_next 32) (behind_run is_token_byte 32 space_ends_token m (32 ∷ (t ++ 32 ∷ v)) token.1)
    ∙ behind_run is_uri_byte 32 refl t (32 ∷ v) uri

short_is : (x : List ℕ) (target : Option (List ℕ)) → behind_target (skip_line_bytes x) ≡ target → short x ≡ short_start x target
unfolding short
short_is x target e = ap (short_start x) e

run_is : (x : List ℕ) (target : Option (List ℕ)) → behind_target (skip_line_bytes x) ≡ target → run_of x ≡ run_start x target
run_is x target e = ap (run_start x) e

-- what stands behind the second space before the section
version_few : (minor : ℕ) (e : LineEnd) → length (print_version minor ++ print_end e) ≤ 12
version_few minor crlf = omega arith
version_few minor lf = omega arith

-- the short text, of at most 16 bytes, and the run serve
pub record Serves (x : List ℕ) : Type 0 where
  pub few : length (short x) ≤ 16
  pub alike : Alike x (short x)
  pub stays : Stays (run_of x) x

-- empty lines, and a CR or a part of a method
first_alike : (b : List LineEnd) (x y t : List ℕ) → x ≡ print_blank b ++ y → behind_target (skip_line_bytes x) ≡ None → has 10 y ≡ false
    → take 1 y ≡ t → Alike (print_blank b ++ y) t → Stays (word_run y) x → Serves x
first_alike b x y t is none plain taken alike stays =
    let line : last_line x ≡ y = ap last_line is ∙ blanks_on b y ∙ last_line_whole y plain in
    let text : short x ≡ t =
    short_is x None none ∙ ap (take 1) line ∙ taken in
    record {
      few = omega (arith, ap length text, ap length taken, first_few y);
      alike = subst (λ (u : List ℕ). Alike u (short x)) (sym is) (subst (λ (u : List ℕ). Alike (print_blank b ++ y) u) (sym text) alike);
      stays = subst (λ r. Stays r x) (sym (run_is x None none ∙ ap word_run line)) stays;
    }

blank_alike : (b : List LineEnd) (x : List ℕ) → x ≡ print_blank b → Serves x
blank_alike b x is =
    let whole : x ≡ print_blank b ++ [] = is ∙ sym (append-nil (print_blank b)) in
    first_alike b x [] [] whole (ap behind_target (ap skip_line_bytes whole ∙ skip_blank b [])) refl refl (alike_append (print_blank b) [] [] (blanks_alike b [])) (never_runs x)

cr_alike : (b : List LineEnd) (x : List ℕ) → x ≡ print_blank b ++ 13 ∷ [] → Serves x
cr_alike b x is =
    first_alike b x (13 ∷ []) (13 ∷ []) is (ap behind_target (ap skip_line_bytes is ∙ skip_blank b (13 ∷ []))) refl refl
    (alike_append (print_blank b) [] (13 ∷ []) (blanks_alike b [])) (never_runs x)

method_alike : (b : List LineEnd) (x m : List ℕ) → x ≡ print_blank b ++ m → AllPass is_token_byte m → Serves x
method_alike b x [] is pass = blank_alike b x (is ∙ append-nil (print_blank b))
method_alike b x (n ∷ ns) is pass =
    let token : IsToken (n ∷ ns) = (omega arith, pass) in
    let none = ap (behind_next 32) (behind_none is_token_byte 32 space_ends_token (n ∷ ns) pass) in
    let skipped = ap skip_line_bytes is ∙ skip_blank b (n ∷ ns) ∙ ap skip_line_bytes (sym (append-nil (n ∷ ns))) ∙ skip_token (n ∷ ns) [] token ∙ append-nil (n ∷ ns) in
    let stays : Stays Token x = λ piece e.
    subst (λ u. Alike u (u ++ piece)) (sym is)
    (subst (λ u. Alike (print_blank b ++ (n ∷ ns)) u) (sym (append_assoc (print_blank b) (n ∷ ns) piece))
    (methods_alike b b (n ∷ ns) ((n ∷ ns) ++ piece) token (more_token (n ∷ ns) piece token e))) in
    first_alike b x (n ∷ ns) (n ∷ []) is (ap behind_target skipped ∙ none)
    (has_none is_token_byte 10 token_no_lf (n ∷ ns) pass) refl
    (methods_alike b [] (n ∷ ns) (n ∷ []) token (first_token n ns token))
    (subst (λ r. Stays r x) (sym (word_run_token (n ∷ ns) token)) stays)

version_alike : (b : List LineEnd) (m t x v : List ℕ) → IsToken m → (0 < length t) × AllPass is_uri_byte t → IsUtf8 t
    → x ≡ print_blank b ++ (m ++ 32 ∷ (t ++ 32 ∷ v)) → has 10 v ≡ false → length v ≤ 12 → Serves x
version_alike b m t x v token uri text is plain few =
    let words = print_blank b ++ (m ++ 32 ∷ (t ++ 32 ∷ [])) in
    let second = ap behind_target (ap skip_line_bytes is) ∙ target_behind b m t v token uri.1 in
    let short_text : short x ≡ codes "A / " ++ v =
    short_is x (Some v) second
    ∙ ap (short_version v) (behind_lacking 10 v plain) in
    let parts : x ≡ words ++ v =
    is ∙ sym (append_assoc (print_blank b) (m ++ 32 ∷ (t ++ 32 ∷ [])) v
    ∙ ap (λ (u : List ℕ). print_blank b ++ u) (append_assoc m (32 ∷ (t ++ 32 ∷ [])) v)
    ∙ ap (λ (u : List ℕ). print_blank b ++ (m ++ 32 ∷ u)) (append_assoc t (32 ∷ []) v)) in
    let alike = alike_append words (codes "A / ") v (words_alike words (codes "A / ") (words_of b m t token uri text) words_are) in
    record {
      few = omega (arith, few, ap length short_text, length-append (codes "A / ") v);
      alike = subst (λ (u : List ℕ). Alike u (short x)) (sym parts) (subst (λ (u : List ℕ). Alike (words ++ v) u) (sym short_text) alike);
      stays = subst (λ r. Stays r x) (sym (run_is x (Some v) second ∙ ap run_behind (behind_lacking 10 v plain))) (never_runs x);
    }

section_alike : (b : List LineEnd) (m t : List ℕ) (minor : ℕ) (e : LineEnd) (x z : List ℕ) → IsToken m
    → (0 < length t) × AllPass is_uri_byte t → IsUtf8 t → minor ≤ 1
    → x ≡ print_blank b ++ (m ++ 32 ∷ (t ++ 32 ∷ ((print_version minor ++ print_end e) ++ z))) → SectionCut z → Serves x
section_alike b m t minor e x z token uri text le is cut =
    let version = (print_version minor ++ print_end e) ++ z in
    let line = short_of_line cut.line cut.form in
    let left : last_line z ≡ cut.line =
    ap last_line cut.is ∙ fields_on cut.fields cut.line ∙ last_line_whole cut.line (line_lacks_lf cut.line cut.form) in
    let second = ap behind_target (ap skip_line_bytes is) ∙ target_behind b m t version token uri.1 in
    let short_text : short x ≡ codes "A / HTTP/1.1\n" ++ line.0 =
    short_is x (Some version) second
    ∙ ap (short_version version) (version_behind minor e z le)
    ∙ ap (λ (u : List ℕ). codes "A / HTTP/1.1\n" ++ short_line u) left ∙ ap (λ (u : List ℕ). codes "A / HTTP/1.1\n" ++ u) line.1.is in
    let lines = start_text b m t minor e ++ flat_map print_field cut.fields in
    let parts : x ≡ lines ++ cut.line =
    is ∙ ap (λ (u : List ℕ). print_blank b ++ (m ++ 32 ∷ (t ++ 32 ∷ ((print_version minor ++ print_end e) ++ u)))) cut.is
    ∙ ap (λ (u : List ℕ). print_blank b ++ (m ++ 32 ∷ (t ++ 32 ∷ u))) (append_assoc (print_version minor) (print_end e) (flat_map print_field cut.fields ++ cut.line))
    ∙ sym (regroup (print_blank b) m t (print_version minor) (print_end e) (flat_map print_field cut.fields) cut.line) in
    let alike = lines_alike lines (codes "A / HTTP/1.1\n") cut.line line.0 (lines_of b m t minor e cut.fields token uri text le cut.are) lines_are line.1.there line.1.back in
    let are = lines_of b m t minor e cut.fields token uri text le cut.are in
    let stays : Stays (line_run cut.line) x = λ piece e.
    let on = line.1.runs piece e in
    subst (λ u. Alike u (u ++ piece)) (sym parts)
    (subst (λ u. Alike (lines ++ cut.line) u) (sym (append_assoc lines cut.line piece))
    (lines_alike lines lines cut.line (cut.line ++ piece) are are on.0 on.1)) in
    let run : run_of x ≡ line_run cut.line =
    run_is x (Some version) second ∙ ap run_behind (version_behind minor e z le) ∙ ap line_run left in
    record {
      few = omega (arith, ap length short_text, length-append (codes "A / HTTP/1.1\n") line.0, ap length line.1.is, line_few cut.line);
      alike = subst (λ (u : List ℕ). Alike u (short x)) (sym parts) (subst (λ (u : List ℕ). Alike (lines ++ cut.line) u) (sym short_text) alike);
      stays = subst (λ r. Stays r x) (sym run) stays;
    }

-- a text that begins a head, and has more behind it
module _ (x more : List ℕ) (h : RequestHead) (is : IsRequestHead h) (some : 0 < length more) (outside : ends_in_target x ≡ false) where
  abbrev section : List ℕ
  section = print_section h.fields h.last ++ []

  abbrev version : List ℕ
  version = print_version h.minor ++ (print_end h.line_end ++ section)

  inside : (target : List ℕ) → AllPass is_uri_byte target → x ≡ print_blank h.blank ++ (h.method ++ 32 ∷ target) → ⊥
  inside target uri at =
      let yes = target_ends x (h.blank, h.method, target, is.method, uri, at ∙ sym (append_assoc (print_blank h.blank) h.method (32 ∷ target))) in
      cc

  behind_space : (z : List ℕ) → x ≡ print_blank h.blank ++ (h.method ++ 32 ∷ (h.target ++ 32 ∷ z)) → z ++ more ≡ version → Serves x
  behind_space z at e =
      let ends = print_version h.minor ++ print_end h.line_end in
      elim (begins_two z more ends section (e ∙ sym (append_assoc (print_version h.minor) (print_end h.line_end) section))) [
        | inl s ↦ version_alike h.blank h.method h.target x z is.method is.target is.target_text at (version_cut h.minor h.line_end z s.0 is.minor s.1 s.2)
            (omega (arith, version_few h.minor h.line_end, ap length s.1, length-append z s.0))
        | inr d ↦ section_alike h.blank h.method h.target h.minor h.line_end x d.0 is.method is.target is.target_text is.minor
            (at ∙ ap (λ (u : List ℕ). print_blank h.blank ++ (h.method ++ 32 ∷ (h.target ++ 32 ∷ u))) d.1)
            (section_cut h.fields h.last d.0 more some is.fields d.2)
      ]

  second_space : (z : List ℕ) → x ≡ print_blank h.blank ++ (h.method ++ 32 ∷ (h.target ++ z)) → z ++ more ≡ 32 ∷ version → Serves x
  second_space [] at e =
      absurd (inside h.target is.target.1 (at ∙ ap (λ (u : List ℕ). print_blank h.blank ++ (h.method ++ 32 ∷ u)) (append-nil h.target)))
  second_space (k ∷ z) at e =
      let same : k ≡ 32 = cc in
      behind_space z (at ∙ ap (λ (n : ℕ). print_blank h.blank ++ (h.method ++ 32 ∷ (h.target ++ n ∷ z))) same) (cc)

  first_space : (z : List ℕ) → x ≡ print_blank h.blank ++ (h.method ++ z) → z ++ more ≡ 32 ∷ (h.target ++ 32 ∷ version) → Serves x
  first_space [] at e =
      method_alike h.blank x h.method (at ∙ ap (λ (u : List ℕ). print_blank h.blank ++ u) (append-nil h.method)) is.method.1
  first_space (k ∷ z) at e =
      let same : k ≡ 32 = cc in
      let here : x ≡ print_blank h.blank ++ (h.method ++ 32 ∷ z) = at ∙ ap (λ (n : ℕ). print_blank h.blank ++ (h.method ++ n ∷ z)) same in
      let rest : z ++ more ≡ h.target ++ 32 ∷ version = cc in
      elim (begins_two z more h.target (32 ∷ version) rest) [
        | inl s ↦ absurd (inside z (pass_front is_uri_byte z s.0 (subst (AllPass is_uri_byte) s.1 is.target.1)).0 here)
        | inr d ↦ second_space d.0 (here ∙ ap (λ (u : List ℕ). print_blank h.blank ++ (h.method ++ 32 ∷ u)) d.1) d.2
      ]

  begun_alike : x ++ more ≡ print_blank h.blank ++ (h.method ++ 32 ∷ (h.target ++ 32 ∷ version)) → Serves x
  begun_alike e =
      let line = h.method ++ 32 ∷ (h.target ++ 32 ∷ version) in
      elim (begins_two x more (print_blank h.blank) line e) [
        | inl s ↦ (let cut = blank_cut h.blank x s.0 s.1 s.2 in elim cut.1 [ inl at ↦ blank_alike cut.0 x at | inr at ↦ cr_alike cut.0 x at ])
        | inr z ↦ elim (begins_two z.0 more h.method (32 ∷ (h.target ++ 32 ∷ version)) z.2) [
          | inl s ↦ method_alike h.blank x z.0 z.1 (pass_front is_token_byte z.0 s.0 (subst (AllPass is_token_byte) s.1 is.method.1)).0
          | inr d ↦ first_space d.0 (z.1 ∙ ap (λ (u : List ℕ). print_blank h.blank ++ u) d.1) d.2
        ]
      ]

pub short_serves : (x : List ℕ) → HasNoRequest x → CanBecomeHead x → ends_in_target x ≡ false → Serves x
short_serves x none can outside = by_more can.0 can.2
  where
    by_more : (more : List ℕ) → ReadsRequest (x ++ more) can.1 [] → Serves x
    by_more [] reads = absurd (none can.1 [] (subst (λ b. ReadsRequest b can.1 []) (append-nil x) reads))
    by_more (b ∷ more) reads =
        begun_alike x (b ∷ more) can.1 reads.0 (omega arith) outside (reads.1 ∙ print_request-append can.1 [])

-- ---- more bytes behind

alike_none : (a b : List ℕ) → Alike a b → HasNoRequest a → HasNoRequest b
alike_none a b x none = λ h rest reads.
    let there = x.back [] rest (subst (λ u. HeadBefore u rest) (sym (append-nil b)) (h, reads)) in
    none there.0 rest (subst (λ u. ReadsRequest u there.0 rest) (append-nil a) there.1)

alike_can : (a b : List ℕ) → Alike a b → CanBecomeHead a → CanBecomeHead b
alike_can a b x can = let there = x.there can.0 [] (can.1, can.2) in (can.0, there.0, there.1)

-- the run goes on behind what is alike
stays_alike : (run : Run) (a b : List ℕ) → Alike a b → Stays run b → Stays run a
stays_alike run a b x stays piece e =
    alike_trans a b (a ++ piece) x
    (alike_trans b (b ++ piece) (a ++ piece) (stays piece e) (alike_sym (a ++ piece) (b ++ piece) (alike_append a b piece x)))

pub is_behind : (bytes : List ℕ) → HasNoRequest bytes → CanBecomeHead bytes → ends_in_target bytes ≡ false
    → IsBehind (short bytes) (run_of bytes) bytes
is_behind bytes none can outside =
    let serves = short_serves bytes none can outside in
    record { few = serves.few; none = none; can = can; alike = serves.alike; stays = serves.stays }

-- more of the run decides nothing
pub run_behind_stays : (bytes text piece : List ℕ) (run : Run) → IsBehind text run bytes → is_in_run run piece ≡ true
    → IsBehind text run (bytes ++ piece)
run_behind_stays bytes text piece run x e =
    let more = x.stays piece e in
    let same = alike_sym bytes (bytes ++ piece) more in
    record {
      few = x.few;
      none = alike_none bytes (bytes ++ piece) more x.none;
      can = alike_can bytes (bytes ++ piece) more x.can;
      alike = alike_trans (bytes ++ piece) bytes text same x.alike;
      stays = stays_alike run (bytes ++ piece) bytes same x.stays;
    }

-- what is open behind a text is open behind what it stands for
pub open_behind : (bytes text piece : List ℕ) → Alike bytes text → IsOpen (text ++ piece)
    → IsBehind (short (text ++ piece)) (run_of (text ++ piece)) (bytes ++ piece)
open_behind bytes text piece alike is =
    let there = text ++ piece in
    let all = bytes ++ piece in
    let longer = alike_append bytes text piece alike in
    let back = alike_sym all there longer in
    let serves = short_serves there is.none is.can is.outside in
    record {
      few = serves.few;
      none = alike_none there all back is.none;
      can = alike_can there all back is.can;
      alike = alike_trans all there (short there) longer serves.alike;
      stays = stays_alike (run_of there) all there longer serves.stays;
    }

pub stays_open : (bytes piece : List ℕ) (text : Vec ℕ Global) (run : Run) → IsBehind text.items run (bytes ++ piece)
    → StaysOpen bytes piece (Behind text run)
stays_open bytes piece text run x = record { none = x.none; goes_on = inr x.can; ends = x }
