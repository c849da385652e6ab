-- What a tree with names for keys holds, as a finite map.
use Rattle.std.proofs.Common.{◌≡◌, ℕ, List, [], ◌∷◌, ap, sym, ◌∙◌, refl, cond, Some}
use Rattle.std.specs.declared.cmp.Ordering.TheVariants.{Less, Equal, Greater}
use Rattle.std.specs.Ordering.{nat_cmp, eq_by_cmp, match_ordering}
use Rattle.std.specs.Cmp.Lexicographic.{slice_cmp, nat_list_cmp_total}
use Rattle.std.specs.FinMap as finite
use Rattle.std.specs.FinMap.{find, put, get-from_entries, get-insert, same_map, slice_cmp-IsAntisymmetric, nat_cmp-IsAntisymmetric}
use Rattle.std.specs.FinMap.Entries.{by_order, find-put}
use Rattle.std.specs.Map.{lookup}
use Rattle.std.specs.List.{AllZip}
use Rattle.std.specs.BTreeMap.{BTreeMap, get_by, insert_entry, is_at, IsClone}
use Rattle.std.specs.Global.{Vec}
use Rattle.std.proofs.lemmas.List.Elements.{same_from_all_zip}
use Rattle.std.specs.Vec.{vec_len}
use Rattle.mq_addr.specs.declared.addr.Addr.{Addr}
use Rattle.mq_policy.specs.Names.{NameTable, by_bytes, table_of}

abbrev Entries : Type 0
Entries = List (Vec ℕ × Addr)

looked_up : (name : List ℕ) (es : Entries) → find (slice_cmp nat_cmp) name (by_bytes es) ≡ lookup (is_at (λ k. slice_cmp nat_cmp name k.items)) es
looked_up name [] = refl
looked_up name (e ∷ es) = ap (cond (eq_by_cmp (slice_cmp nat_cmp) name e.0.items) (Some e.1)) (looked_up name es)

-- a look-up in the tree is one in the table
pub get_is : (name : List ℕ) (tree : BTreeMap (Vec ℕ) Addr) → get_by (λ k. slice_cmp nat_cmp name k.items) tree ≡ finite.get (table_of tree) name
get_is name tree = sym (get-from_entries nat_list_cmp_total (by_bytes tree.entries) name ∙ looked_up name tree.entries)

put_in : (key : Vec ℕ) (addr : Addr) (es : Entries) → by_bytes (insert_entry (λ x y. slice_cmp nat_cmp x.items y.items) es key addr) ≡ put (slice_cmp nat_cmp) key.items addr (by_bytes es)
put_in key addr [] = refl
put_in key addr (e ∷ es) =
    elim (slice_cmp nat_cmp key.items e.0.items) as (λ r. by_bytes (match_ordering r ((key, addr) ∷ e ∷ es) ((e.0, addr) ∷ es) (e ∷ insert_entry (λ x y. slice_cmp nat_cmp x.items y.items) es key addr))
    ≡ by_order r ((key.items, addr) ∷ by_bytes (e ∷ es)) ((e.0.items, addr) ∷ by_bytes es) ((e.0.items, e.1) ∷ put (slice_cmp nat_cmp) key.items addr (by_bytes es))) [
      | Less ↦ refl
      | Equal ↦ refl
      | Greater ↦ ap (λ rest. (e.0.items, e.1) ∷ rest) (put_in key addr es)
    ]

-- an insertion into the tree is one into the table
insert_is : (key : Vec ℕ) (addr : Addr) (old new : BTreeMap (Vec ℕ) Addr) → new.entries ≡ insert_entry (λ x y. slice_cmp nat_cmp x.items y.items) old.entries key addr
    → table_of new ≡ finite.insert (table_of old) key.items addr
insert_is key addr old new e =
    same_map nat_list_cmp_total (slice_cmp-IsAntisymmetric nat_cmp-IsAntisymmetric) (table_of new) (finite.insert (table_of old) key.items addr) (λ name.
    get-from_entries nat_list_cmp_total (by_bytes new.entries) name
    ∙ ap (λ es. find (slice_cmp nat_cmp) name (by_bytes es)) e
    ∙ ap (find (slice_cmp nat_cmp) name) (put_in key addr old.entries)
    ∙ find-put (slice_cmp nat_cmp) nat_list_cmp_total name key.items addr (by_bytes old.entries)
    ∙ ap (cond (eq_by_cmp (slice_cmp nat_cmp) name key.items) (Some addr)) (sym (get-from_entries nat_list_cmp_total (by_bytes old.entries) name))
    ∙ sym (get-insert nat_list_cmp_total (table_of old) key.items addr name))

pub set_is : (key : Vec ℕ) (name : List ℕ) (addr : Addr) (old new : BTreeMap (Vec ℕ) Addr) (table : NameTable)
    → new.entries ≡ insert_entry (λ x y. slice_cmp nat_cmp x.items y.items) old.entries key addr → key.items ≡ name → table_of old ≡ table
    → table_of new ≡ finite.insert table name addr
set_is key name addr old new table e key_is old_is =
    insert_is key addr old new e ∙ ap (λ bytes. finite.insert (table_of old) bytes addr) key_is ∙ ap (λ before. finite.insert before name addr) old_is

-- a clone is the same table
cloned : (es fs : Entries) → AllZip (λ p q. (AllZip (λ x y. y ≡ x) p.0.items q.0.items × (vec_len q.0 ≡ vec_len p.0)) × (q.1 ≡ p.1)) es fs → by_bytes fs ≡ by_bytes es
cloned [] [] h = refl
cloned [] (f ∷ fs) h = absurd h
cloned (e ∷ es) [] h = absurd h
cloned (e ∷ es) (f ∷ fs) h =
    let items = same_from_all_zip (λ x y. y ≡ x) e.0.items f.0.items h.0.0.0 (λ x y same. same) in
    let rest = cloned es fs h.1 in
    λ i. (items i, h.0.1 i) ∷ rest i

pub clone_is : (old new : BTreeMap (Vec ℕ) Addr) → IsClone (λ v w. AllZip (λ x y. y ≡ x) v.items w.items × (vec_len w ≡ vec_len v)) (λ x y. y ≡ x) old new → table_of new ≡ table_of old
clone_is old new h = ap (λ es. finite.from_entries es) (cloned old.entries new.entries h)
