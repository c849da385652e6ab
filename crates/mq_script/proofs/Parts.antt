-- How a part and what stands behind it are read.
use Rattle.std.proofs.Common.{◌≡◌, ℕ, List, refl, sym, subst, ◌∙◌, ap, Result, Err}
use Rattle.mq_text.specs.Cut.{Lacks, IsCut, IsCutOnce}
use Rattle.mq_play.specs.Parts.{IsName, Means, Parted}
use Rattle.mq_play.proofs.reading.Lacking.{holds_separator}
use Rattle.mq_play.proofs.reading.Parted.{IsLacking, IsSingle, parted_behind, parted_other}
use Rattle.mq_play.proofs.reading.Singles.{name_once, names_lack}
use Rattle.mq_script.specs.Reading.{CutsTo, IsParsed}
use Rattle.mq_script.specs.declared.fault.LineFault.{LineFault}
use Rattle.mq_script.specs.declared.fault.LineFault.TheVariants.{Syntax, NoMemory}
use Rattle.mq_script.proofs.Pieces.{parsed_fault, parsed_same}

-- the part was read, and what stands behind it is read too
pub parted_read : {A B : Type 0} (Is : List ℕ → A → Type 0) (Behind : A → List ℕ → B → Type 0) → IsCutOnce → IsLacking Is → IsSingle Is → (text before behind : List ℕ) → IsCut 32 text before behind
    → (value : A) → Is before value → (r : Result B LineFault) → IsParsed (Behind value behind) r → IsParsed (Parted Is Behind text) r
parted_read Is Behind once lacking single text before behind cut value says r h =
    parsed_same (Behind value behind) (Parted Is Behind text) r
    (λ said after. record { part = before; first = value; rest = behind; is = cut.is; says = says; behind = after })
    (λ said told. parted_behind Is Behind once lacking single text before behind cut value says said told)
    h

-- what stands before the first space isn't read
pub parted_fault : {A B : Type 0} (Is : List ℕ → A → Type 0) (Behind : A → List ℕ → B → Type 0) → IsCutOnce → IsLacking Is → (text before behind : List ℕ) → IsCut 32 text before behind
    → (fault : LineFault) → IsParsed {T = A} (Is before) (Err fault) → IsParsed {T = B} (Parted Is Behind text) (Err fault)
parted_fault Is Behind once lacking text before behind cut Syntax h = λ said told. parted_other Is Behind once lacking text before behind cut h said told
parted_fault Is Behind once lacking text before behind cut NoMemory h = tt

-- of what is read this is made
pub means_read : {A B : Type 0} (Is : List ℕ → A → Type 0) (make : A → B) (text : List ℕ) (value : A) → Is text value → Means Is make text (make value)
means_read Is make text value h = record { value = value; says = h; said_is = refl }

pub means_fault : {A B : Type 0} (Is : List ℕ → A → Type 0) (make : A → B) (text : List ℕ) (fault : LineFault) → IsParsed {T = A} (Is text) (Err fault) → IsParsed {T = B} (Means Is make text) (Err fault)
means_fault Is make text fault h = parsed_fault (Is text) (Means Is make text) fault (λ said m. (m.value, m.says)) h

pub means_none : {A B : Type 0} (Is : List ℕ → A → Type 0) (make : A → B) (text : List ℕ) → ((value : A) → Is text value → ⊥) → (said : B) → Means Is make text said → ⊥
means_none Is make text none said m = none m.value m.says

-- ---- the number of a link or a tunnel

pub name_none : {B : Type 0} (Behind : ℕ → List ℕ → B → Type 0) (text : List ℕ) → ((name : ℕ) (behind : List ℕ) → CutsTo text name behind → ⊥) → (said : B) → Parted IsName Behind text said → ⊥
name_none Behind text none said told = none told.first told.rest (record { part = told.part; cut = record { is = told.is; first = names_lack told.part told.first told.says }; says = told.says })

pub name_read : {B : Type 0} (Behind : ℕ → List ℕ → B → Type 0) → IsCutOnce → (text : List ℕ) (name : ℕ) (behind : List ℕ) → CutsTo text name behind → (r : Result B LineFault) → IsParsed (Behind name behind) r → IsParsed (Parted IsName Behind text) r
name_read Behind once text name behind to r h = parted_read IsName Behind once names_lack name_once text to.part behind to.cut name to.says r h

-- what is made of the value that was read
pub means_made : {A B : Type 0} (Is : List ℕ → A → Type 0) (make : A → B) (text : List ℕ) (value : A) → IsSingle Is → Is text value → (r : Result B LineFault) → IsParsed (λ said. said ≡ make value) r → IsParsed (Means Is make text) r
means_made Is make text value single says r h =
    parsed_same (λ said. said ≡ make value) (Means Is make text) r
    (λ said is. record { value = value; says = says; said_is = is })
    (λ said m. m.said_is ∙ ap make (single text m.value value m.says says))
    h

-- without a space there is no name
pub uncut_name : (text : List ℕ) → Lacks 32 text → (name : ℕ) (behind : List ℕ) → CutsTo text name behind → ⊥
uncut_name text lacks name behind to = holds_separator 32 to.part behind (subst (Lacks 32) to.cut.is lacks)

-- what stands before the first space is no name
pub other_name : IsCutOnce → (text before behind : List ℕ) → IsCut 32 text before behind → ((name : ℕ) → IsName before name → ⊥) → (name : ℕ) (rest : List ℕ) → CutsTo text name rest → ⊥
other_name once text before behind cut none name rest to =
    let same = once 32 text before behind to.part rest cut to.cut in
    none name (subst (λ (part : List ℕ). IsName part name) (sym same.0) to.says)

-- what was found of a part and behind it
pub parted_found : {A B : Type 0} (Is : List ℕ → A → Type 0) (Behind : A → List ℕ → B → Type 0) → IsCutOnce → IsLacking Is → IsSingle Is → (text before behind : List ℕ) → IsCut 32 text before behind
    → (value : A) → Is before value → ((said : B) → Behind value behind said → ⊥) → (said : B) → Parted Is Behind text said → ⊥
parted_found Is Behind once lacking single text before behind cut value says none said told = none said (parted_behind Is Behind once lacking single text before behind cut value says said told)
