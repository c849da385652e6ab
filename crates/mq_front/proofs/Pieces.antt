-- Pieces of a data stream, one behind the other.
use Rattle.std.proofs.Common.{◌≡◌, ℕ, ◌+◌, ◌≤◌, Bool, false, cond, List, [], ◌++◌, length, Option, Some, option_to_list, Result, Ok, Err, sym, ap, subst, ◌∙◌, arith, append_assoc, append-nil}
use Rattle.std.specs.Prelude.{IfOk}
use Rattle.std.proofs.lemmas.List.{length-append, nil_from_length}
use Rattle.mq_capsule.specs.declared.item.Item.{Item}
use Rattle.mq_capsule.specs.declared.reader.Reader.{Reader}
use Rattle.mq_capsule.specs.Items.{ItemsOf}
use Rattle.mq_capsule.specs.Readers.{Stands, StandsOn, GivesItems}
use Rattle.mq_wire.specs.declared.NoMemory.{NoMemory}
use Rattle.mq_machine.specs.declared.act.Due.{Due}
use Rattle.mq_machine.specs.Reading.{is_payload}
use Rattle.mq_front.specs.declared.items.Asked.{Asked}
use Rattle.mq_front.specs.declared.items.Carrier.{Carrier}
use Rattle.mq_front.specs.Items.{PutsItems, PutsUnless, PutsMore, ReadsItems}
use Rattle.mq_front.proofs.ItemLists.{puts_none, puts_more}

-- what was read of a piece so far, a byte at least in each round
pub record Far (o : Carrier) (n : ℕ) (start now : Reader) (piece left : List ℕ) (before after : List Due) (next : ℕ) (closes : Bool) (rounds : ℕ) : Type 0 where
  pub done : List ℕ
  pub all : done ++ left ≡ piece
  pub read : ReadsItems o n start now done before after next closes
  pub goes : (control : Bool) (bytes : List ℕ) → Stands start control bytes → rounds ≤ length done

gives_on : (a b : Reader) (piece more : List ℕ) (given later : List Item) → GivesItems a piece given → StandsOn a b piece → GivesItems b more later
    → GivesItems a (piece ++ more) (given ++ later)
gives_on a b piece more given later first on second control bytes items stands of =
    let P : List ℕ → List Item → Type 0 = λ x y. ItemsOf control x y in
    subst (λ (x : List ℕ). P x (items ++ (given ++ later))) (append_assoc bytes piece more)
    (subst (P (bytes ++ piece ++ more)) (append_assoc items given later)
    (second control (bytes ++ piece) (items ++ given) (on control bytes stands) (first control bytes items stands of)))

stands_on : (a b c : Reader) (piece more : List ℕ) → StandsOn a b piece → StandsOn b c more → StandsOn a c (piece ++ more)
stands_on a b c piece more first second control bytes stands =
    subst (λ (x : List ℕ). Stands c control x) (append_assoc bytes piece more) (second control (bytes ++ piece) (first control bytes stands))

pub reads_nothing : (o : Carrier) (n : ℕ) (r : Reader) (before : List Due) → ReadsItems o n r r [] before before n false
reads_nothing o n r before = record {
  given = [];
  gives = λ control bytes items stands of.
      let P : List ℕ → List Item → Type 0 = λ x y. ItemsOf control x y in
      subst (λ (x : List ℕ). P x (items ++ [])) (sym (append-nil bytes)) (subst (P bytes) (sym (append-nil items)) of);
  stands = λ control bytes stands. subst (λ (x : List ℕ). Stands r control x) (sym (append-nil bytes)) stands;
  puts = puts_none o n before;
}

-- a further piece
pub reads_on : (o : Carrier) (n : ℕ) (a b c : Reader) (piece more : List ℕ) (later : List Item) (before mid after : List Due) (next last : ℕ) (closes closed : Bool)
    → (read : ReadsItems o n a b piece before mid next closes) → GivesItems b more later → StandsOn b c more
    → PutsItems o n (read.given ++ later) before after last closed → ReadsItems o n a c (piece ++ more) before after last closed
reads_on o n a b c piece more later before mid after next last closes closed read gives on puts = record {
  given = read.given ++ later;
  gives = gives_on a b piece more read.given later read.gives read.stands gives;
  stands = stands_on a b c piece more read.stands on;
  puts = puts;
}

-- all of it was read, where it is said that nothing is left
all_done : (done left piece : List ℕ) → done ++ left ≡ piece → length left ≡ 0 → done ≡ piece
all_done done left piece all none = sym (append-nil done) ∙ ap (λ (l : List ℕ). done ++ l) (sym (nil_from_length left none)) ∙ all

pub reads_all : (o : Carrier) (n : ℕ) (start now : Reader) (piece left : List ℕ) (before after : List Due) (next : ℕ) (closes : Bool) (rounds : ℕ)
    → Far o n start now piece left before after next closes rounds → length left ≡ 0 → ReadsItems o n start now piece before after next closes
reads_all o n start now piece left before after next closes rounds far none =
    subst (λ (p : List ℕ). ReadsItems o n start now p before after next closes) (all_done far.done left piece far.all none) far.read

-- or where there were as many rounds as bytes
pub reads_round : (o : Carrier) (n : ℕ) (start now : Reader) (piece left : List ℕ) (before after : List Due) (next : ℕ) (closes : Bool) (rounds : ℕ)
    → Far o n start now piece left before after next closes rounds → length piece ≤ rounds → ReadsItems o n start now piece before after next closes
reads_round o n start now piece left before after next closes rounds far enough =
    let read = far.read in
    let done : (control : Bool) (bytes : List ℕ) → Stands start control bytes → far.done ≡ piece = λ control bytes stands.
    let gone = far.goes control bytes stands in
    all_done far.done left piece far.all (omega (arith, gone, length-append far.done left, ap length far.all, enough)) in
    record {
      given = read.given;
      gives = λ control bytes items stands of.
          subst (λ (p : List ℕ). ItemsOf control (bytes ++ p) (items ++ read.given)) (done control bytes stands) (read.gives control bytes items stands of);
      stands = λ control bytes stands. subst (λ (p : List ℕ). Stands now control (bytes ++ p)) (done control bytes stands) (read.stands control bytes stands);
      puts = read.puts;
    }

-- one more item, where what it asks for was put
pub puts_told : (o : Carrier) (asked : Asked) (told : Option Item) (item : Item) (mid new : List Due) (result : Result Asked NoMemory) → told ≡ Some item
    → IfOk result (λ next. PutsUnless asked.closes o asked.n item mid new next.closes × (next.n ≡ asked.n + cond (is_payload item) 1 0))
    → IfOk result (λ next. PutsMore o asked told mid new next)
puts_told o asked told item mid new (Err refused) told_is h = tt
puts_told o asked told item mid new (Ok next) told_is h = λ n items old puts.
    subst (λ (t : Option Item). PutsItems o n (items ++ option_to_list t) old new next.n next.closes) (sym told_is)
    (puts_more o n asked.n items item old mid new next.n asked.closes next.closes puts h.0 h.1)
