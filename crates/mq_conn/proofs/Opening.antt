-- A tunnel opens.
use Rattle.std.proofs.Common.{◌≡◌, ℕ, true, List, [], ◌∷◌, ◌++◌, length, Option, Some, None, Result, Ok, Err, slice_get, slice_set, refl, sym, ap, ◌∙◌, subst}
use Rattle.std.specs.Prelude.{vec_len, vec_capacity}
use Rattle.std.specs.Option.{is_some}
use Rattle.std.proofs.lemmas.List.{map-append}
use Rattle.mq_addr.specs.declared.kind.Kind.{Kind}
use Rattle.mq_addr.specs.declared.range.Range.{Range}
use Rattle.mq_front.specs.declared.front.Front.{Front}
use Rattle.mq_front.specs.Fronts.{HasPut}
use Rattle.mq_talk.specs.declared.note.Note.{Note}
use Rattle.mq_talk.specs.declared.note.Note.TheVariants as note
use Rattle.mq_wire.specs.declared.NoMemory.{NoMemory}
use Rattle.mq_machine.specs.declared.act.Due.{Due}
use Rattle.mq_machine.specs.Done.{first_waiting, success}
use Rattle.mq_machine.specs.Putting.{putting}
use Rattle.mq_machine.specs.State as machine
use Rattle.mq_machine.specs.State.{Waiting, kind_of, owed}
use Rattle.mq_conn.specs.declared.conn.Conn.{Conn}
use Rattle.mq_conn.specs.declared.conn.First.{First}
use Rattle.mq_conn.specs.declared.conn.Tunnel.{Tunnel}
use Rattle.mq_conn.specs.declared.open.Opening.{Opening}
use Rattle.mq_conn.specs.Closing.{OpensOn, opened_tunnel}
use Rattle.std.specs.Result.{IsErr}
use Rattle.mq_conn.specs.Conns.{HasRoom, IsReady, IsSpare, Leaves, Stands, behind, tunnel_is, tunnels_of}
use Rattle.mq_conn.proofs.Ready.{ready_same}
use Rattle.mq_conn.specs.Queues.{a_value, values_of}
use Rattle.mq_conn.specs.Rooms.{Grants, KeepsTunnels, Places}
use Rattle.mq_conn.specs.Values.{Waits}
use Rattle.mq_conn.proofs.Standing.{number_is, opens_put, reads}

-- ---- the tunnel that is placed

abbrev pub made : ℕ → Opening → List Waiting → Tunnel
made id o ws = record { id = id; stream = o.stream; goal = o.goal; waiting = ws }

spare_empty : (o : Option (List Waiting)) → is_some o ≡ true → IsSpare o → o ≡ Some []
spare_empty None some h = absurd cc
spare_empty (Some ws) some h = ap (λ (xs : List Waiting). Some xs) h

placed_items : (old mid : Conn) (id : ℕ) (o : Opening) → Places old mid id o → is_some old.spare ≡ true → IsSpare old.spare → mid.tunnels.items ≡ old.tunnels.items ++ made id o [] ∷ []
placed_items old mid id o placed some empty = placed.items [] (spare_empty old.spare some empty)

-- ---- memory is refused behind that

-- all is left but what is read, owed and due, and room for more
pub record Left (mid new : Conn) : Type 0 where
  pub is : new ≡ record mid { front = new.front; first = new.first; due = new.due; ending = new.ending; spare = new.spare; pump = new.pump; tunnels = new.tunnels }
  pub items : new.tunnels.items ≡ mid.tunnels.items
  pub spare_is : IsSpare mid.spare → IsSpare new.spare

pub left_front : (mid new : Conn) → new ≡ record mid { front = new.front } → Left mid new
left_front mid new is =
    let P : Conn → Type 0 = λ k. Left mid k in
    subst P (sym is) (record { is = refl; items = refl; spare_is = λ h. h })

pub left_more : (mid a b : Conn) → Left mid a → KeepsTunnels a b → Left mid b
left_more mid a b left keeps = record {
  is = keeps.is ∙ ap (λ (k : Conn). record k { spare = b.spare; tunnels = b.tunnels }) left.is
      ∙ ap (λ (k : Conn). record mid { front = k.front; first = k.first; due = k.due; ending = k.ending; spare = b.spare; pump = k.pump; tunnels = b.tunnels }) (sym keeps.is);
  items = keeps.items ∙ left.items;
  spare_is = λ h. keeps.spare_is (left.spare_is h);
}

pub left_all : (mid a b : Conn) → Left mid a → Leaves a b → Left mid b
left_all mid a b left leaves = record {
  is = leaves.is ∙ ap (λ (k : Conn). record k { front = b.front; first = b.first; due = b.due; ending = b.ending; spare = b.spare; pump = b.pump; tunnels = b.tunnels }) left.is;
  items = leaves.items ∙ left.items;
  spare_is = λ h. leaves.spare_is (left.spare_is h);
}

pub opens_err : (old mid new : Conn) (id : ℕ) (o : Opening) (routes : List Range) (r : Result Note NoMemory) → IsErr r → Places old mid id o → Left mid new → OpensOn old new id o routes r
opens_err old mid new id o routes (Ok said) is placed left = absurd cc
opens_err old mid new id o routes (Err fault) is placed left = λ empty some room.
    let M : Conn → Type 0 = λ k. IsSpare k.spare in (
      left.is ∙ ap (λ (k : Conn). record k { front = new.front; first = new.first; due = new.due; ending = new.ending; spare = new.spare; pump = new.pump; tunnels = new.tunnels }) placed.is,
      left.spare_is (subst M (sym placed.is) tt),
      ap tunnels_of (left.items ∙ placed_items old mid id o placed some empty) ∙ map-append tunnel_is old.tunnels.items (made id o [] ∷ []),
    )

-- ---- it opened

-- what waits in it
set_end : (ts : List Tunnel) (t u : Tunnel) → slice_set (ts ++ t ∷ []) (length ts) u ≡ ts ++ u ∷ []
set_end [] t u = refl
set_end (x ∷ xs) t u = ap (λ (us : List Tunnel). x ∷ us) (set_end xs t u)

get_end : (ts : List Tunnel) (t : Tunnel) → slice_get (ts ++ t ∷ []) (length ts) ≡ Some t
get_end [] t = refl
get_end (x ∷ xs) t = get_end xs t

set_last : (ts : List Tunnel) (place : ℕ) (t u : Tunnel) → place ≡ length ts → slice_set (ts ++ t ∷ []) place u ≡ ts ++ u ∷ []
set_last ts place t u is = ap (λ (n : ℕ). slice_set (ts ++ t ∷ []) n u) is ∙ set_end ts t u

get_last : (ts : List Tunnel) (place : ℕ) (t : Tunnel) → place ≡ length ts → slice_get (ts ++ t ∷ []) place ≡ Some t
get_last ts place t is = ap (λ (n : ℕ). slice_get (ts ++ t ∷ []) n) is ∙ get_end ts t

-- what stands behind the room for the next
pub record Ready3 (old mid granted ready : Conn) (id : ℕ) (o : Opening) (kind : Kind) : Type 0 where
  pub kind_is : kind ≡ kind_of o.goal
  pub placed : Places old mid id o
  pub grants : Grants mid granted o.stream kind
  pub keeps : KeepsTunnels granted ready
  pub room : HasRoom ready.spare (vec_len ready.tunnels) (vec_capacity ready.tunnels) ready.due

ready_items : (old mid granted ready : Conn) (id : ℕ) (o : Opening) (kind : Kind) → Ready3 old mid granted ready id o kind → is_some old.spare ≡ true → IsSpare old.spare → ready.tunnels.items ≡ old.tunnels.items ++ made id o [] ∷ []
ready_items old mid granted ready id o kind r some empty = r.keeps.items ∙ ap (λ (k : Conn). k.tunnels.items) r.grants.is ∙ placed_items old mid id o r.placed some empty

-- it is all but the front, the spare and the tunnels
ready_is : (old mid granted ready : Conn) (id : ℕ) (o : Opening) (kind : Kind) → Ready3 old mid granted ready id o kind → ready ≡ record old { front = granted.front; spare = ready.spare; tunnels = ready.tunnels }
ready_is old mid granted ready id o kind r =
    r.keeps.is
    ∙ ap (λ (k : Conn). record k { spare = ready.spare; tunnels = ready.tunnels }) r.grants.is
    ∙ ap (λ (k : Conn). record k { front = granted.front; spare = ready.spare; tunnels = ready.tunnels }) r.placed.is

opens_with : (old mid granted ready new : Conn) (id : ℕ) (o : Opening) (kind : Kind) (ws : List Waiting) (s : machine.Conn) → Ready3 old mid granted ready id o kind
    → new ≡ record ready { tunnels = new.tunnels } → vec_len new.tunnels ≡ vec_len ready.tunnels → vec_capacity new.tunnels ≡ vec_capacity ready.tunnels
    → new.tunnels.items ≡ old.tunnels.items ++ made id o ws ∷ [] → old.first ≡ None → Stands old s
    → Stands new (putting (record s { tunnels = s.tunnels ++ opened_tunnel id o ws ∷ [] }) (success s.front o.stream (kind_of o.goal)))
opens_with old mid granted ready new id o kind ws s r is len capacity items none st =
    let g = r.grants in
    let K : Kind → Type 0 = λ k. HasPut g.g (success s.front o.stream k) s.streams (owed s) in
    let was : old.front ≡ Some g.f = ap (λ (k : Conn). k.front) (sym r.placed.is) ∙ g.was in
    let f_is = reads old s g.f was st in
    let M : Conn → Type 0 = λ k. IsSpare k.spare in
    let rest : ready ≡ record old { front = granted.front; spare = ready.spare; tunnels = ready.tunnels } = ready_is old mid granted ready id o kind r in
    let due_same : ready.due ≡ old.due = ap (λ (k : Conn). k.due) rest in
    let D : List Due → Type 0 = λ ds. HasRoom ready.spare (vec_len ready.tunnels) (vec_capacity ready.tunnels) ds in
    let F : Option First → Type 0 = λ f. HasRoom ready.spare (vec_len ready.tunnels) (vec_capacity ready.tunnels) (behind f old.due) in
    let empty : IsSpare ready.spare = r.keeps.spare_is (subst M (sym g.is) (subst M (sym r.placed.is) tt)) in
    let all : IsReady ready.spare (vec_len ready.tunnels) (vec_capacity ready.tunnels) old.first old.due =
    record { room = subst F (sym none) (subst D due_same r.room); spare_is = empty; may = st.ready.may } in
    let all_new = ready_same ready.spare (vec_len ready.tunnels) (vec_capacity ready.tunnels) (vec_len new.tunnels) (vec_capacity new.tunnels) old.first old.due len capacity all in
    let stood = opens_put old s (made id o ws) g.f g.g ready.spare new.tunnels was items (subst K r.kind_is (g.puts s.front s.streams (owed s) f_is)) all_new st in
    let new_is : record old { front = Some g.g; spare = ready.spare; tunnels = new.tunnels } ≡ new =
    ap (λ (x : Option Front). record old { front = x; spare = ready.spare; tunnels = new.tunnels }) (sym g.became)
    ∙ ap (λ (k : Conn). record k { tunnels = new.tunnels }) (sym rest) ∙ sym is in
    let P : Conn → Type 0 = λ k. Stands k (putting (record s { tunnels = s.tunnels ++ opened_tunnel id o ws ∷ [] }) (success s.front o.stream (kind_of o.goal))) in
    subst P new_is stood

-- a value was put, or there was none
pub opens_told : (old mid granted ready new : Conn) (id place : ℕ) (o : Opening) (kind : Kind) (capsule : List ℕ) (t : Tunnel) (routes : List Range) → Ready3 old mid granted ready id o kind
    → place ≡ length old.tunnels.items → values_of (Some capsule) ≡ first_waiting kind routes → slice_get ready.tunnels.items place ≡ Some t → Waits ready new place t capsule
    → OpensOn old new id o routes (Ok (note.Opened id old.number o.stream kind))
opens_told old mid granted ready new id place o kind capsule t routes r at told has waits s st none over some room =
    let empty = st.ready.spare_is in
    let items3 = ready_items old mid granted ready id o kind r some empty in
    let here : Some t ≡ Some (made id o []) = sym has ∙ ap (λ (ts : List Tunnel). slice_get ts place) items3 ∙ get_last old.tunnels.items place (made id o []) at in
    let t_is : t ≡ made id o [] = (let e = here in cc) in
    let items : new.tunnels.items ≡ old.tunnels.items ++ made id o (first_waiting (kind_of o.goal) routes) ∷ [] =
    waits.items ∙ ap (λ (u : Tunnel). slice_set ready.tunnels.items place (record u { waiting = u.waiting ++ a_value capsule ∷ [] })) t_is
    ∙ ap (λ (ts : List Tunnel). slice_set ts place (made id o (a_value capsule ∷ []))) items3
    ∙ set_last old.tunnels.items place (made id o []) (made id o (a_value capsule ∷ [])) at
    ∙ ap (λ (ws : List Waiting). old.tunnels.items ++ made id o ws ∷ []) (told ∙ ap (λ (k : Kind). first_waiting k routes) r.kind_is) in (
      ap (λ (n : ℕ). note.Opened id n o.stream kind) (sym (number_is old s st)) ∙ ap (λ (k : Kind). note.Opened id s.number o.stream k) r.kind_is,
      opens_with old mid granted ready new id o kind (first_waiting (kind_of o.goal) routes) s r waits.is waits.len waits.capacity items none st,
    )

pub opens_untold : (old mid granted ready : Conn) (id : ℕ) (o : Opening) (kind : Kind) (routes : List Range) → Ready3 old mid granted ready id o kind → values_of None ≡ first_waiting kind routes
    → OpensOn old ready id o routes (Ok (note.Opened id old.number o.stream kind))
opens_untold old mid granted ready id o kind routes r told s st none over some room =
    let empty = st.ready.spare_is in
    let items : ready.tunnels.items ≡ old.tunnels.items ++ made id o (first_waiting (kind_of o.goal) routes) ∷ [] =
    ready_items old mid granted ready id o kind r some empty ∙ ap (λ (ws : List Waiting). old.tunnels.items ++ made id o ws ∷ []) (told ∙ ap (λ (k : Kind). first_waiting k routes) r.kind_is) in (
      ap (λ (n : ℕ). note.Opened id n o.stream kind) (sym (number_is old s st)) ∙ ap (λ (k : Kind). note.Opened id s.number o.stream k) r.kind_is,
      opens_with old mid granted ready ready id o kind (first_waiting (kind_of o.goal) routes) s r refl refl refl items none st,
    )
