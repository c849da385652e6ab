-- Settings with one line more.
use Rattle.std.proofs.Common.{◌≡◌, ℕ, ◌+◌, ◌<◌, Bool, true, false, List, [], ◌∷◌, ◌++◌, length, refl, sym, ◌∙◌, ap, subst, Result, Ok, Err, append_assoc, append-nil, get_or}
use Rattle.std.proofs.lemmas.List.{get_or_default, length-append}
use Rattle.std.specs.List.{All, AllByRecursion, Any, filter}
use Rattle.std.proofs.lemmas.List.Elements.{All-append, All-from_recursion, filter-append, recursion_from_All}
use Rattle.mq_addr.specs.declared.addr.Addr.{Addr}
use Rattle.mq_addr.specs.declared.kind.Kind.TheVariants as kind
use Rattle.mq_addr.specs.declared.prefix.Prefix.{Prefix}
use Rattle.mq_addr.specs.declared.range.Range.{Range}
use Rattle.mq_addr.specs.Block.{Overlap}
use Rattle.mq_wire.specs.declared.NoMemory.{NoMemory}
use Rattle.mq_play.specs.declared.line.SettingLine.{SettingLine}
use Rattle.mq_play.specs.declared.line.SettingLine.TheVariants as told
use Rattle.mq_play.specs.declared.plan.Plan.{Plan}
use Rattle.mq_play.specs.Settings.{MayFollow, hosts, is_name, is_rule, most_hosts, most_names, most_routes, most_rules, most_shares, plain_plan, pools, reaches, routes, with_setting, with_settings}
use Rattle.mq_script.specs.Settings.{Adds, AreApart, Grows, HasRoom, IsSettings, Made, MayEnd, one_if, with_line}

-- the last setting is put behind what the others make
with_last : (plan : Plan) (lines : List SettingLine) (line : SettingLine) → with_settings plan (lines ++ line ∷ []) ≡ with_setting (with_settings plan lines) line
with_last plan [] line = refl
with_last plan (first ∷ lines) line = with_last (with_setting plan first) lines line

-- ---- what plans have of the lines

pool_after : (lines : List SettingLine) (plan : Plan) → (with_settings plan lines).book.pool ≡ plan.book.pool ++ pools lines
pool_after [] plan = sym (append-nil plan.book.pool)
pool_after (told.Pool block ∷ lines) plan = pool_after lines (with_setting plan (told.Pool block)) ∙ append_assoc plan.book.pool (block ∷ []) (pools lines)
pool_after (told.Template kind.Udp shape ∷ lines) plan = pool_after lines (with_setting plan (told.Template kind.Udp shape))
pool_after (told.Template kind.Ip shape ∷ lines) plan = pool_after lines (with_setting plan (told.Template kind.Ip shape))
pool_after (l ∷ lines) plan = pool_after lines (with_setting plan l)

reach_after : (lines : List SettingLine) (plan : Plan) → (with_settings plan lines).book.reach ≡ plan.book.reach ++ reaches lines
reach_after [] plan = sym (append-nil plan.book.reach)
reach_after (told.Reach block ∷ lines) plan = reach_after lines (with_setting plan (told.Reach block)) ∙ append_assoc plan.book.reach (block ∷ []) (reaches lines)
reach_after (told.Template kind.Udp shape ∷ lines) plan = reach_after lines (with_setting plan (told.Template kind.Udp shape))
reach_after (told.Template kind.Ip shape ∷ lines) plan = reach_after lines (with_setting plan (told.Template kind.Ip shape))
reach_after (l ∷ lines) plan = reach_after lines (with_setting plan l)

routes_after : (lines : List SettingLine) (plan : Plan) → (with_settings plan lines).book.routes ≡ plan.book.routes ++ routes lines
routes_after [] plan = sym (append-nil plan.book.routes)
routes_after (told.Route range ∷ lines) plan = routes_after lines (with_setting plan (told.Route range)) ∙ append_assoc plan.book.routes (range ∷ []) (routes lines)
routes_after (told.Template kind.Udp shape ∷ lines) plan = routes_after lines (with_setting plan (told.Template kind.Udp shape))
routes_after (told.Template kind.Ip shape ∷ lines) plan = routes_after lines (with_setting plan (told.Template kind.Ip shape))
routes_after (l ∷ lines) plan = routes_after lines (with_setting plan l)

hosts_after : (lines : List SettingLine) (plan : Plan) → (with_settings plan lines).hosts ≡ plan.hosts ++ hosts lines
hosts_after [] plan = sym (append-nil plan.hosts)
hosts_after (told.Host addr ∷ lines) plan = hosts_after lines (with_setting plan (told.Host addr)) ∙ append_assoc plan.hosts (addr ∷ []) (hosts lines)
hosts_after (told.Template kind.Udp shape ∷ lines) plan = hosts_after lines (with_setting plan (told.Template kind.Udp shape))
hosts_after (told.Template kind.Ip shape ∷ lines) plan = hosts_after lines (with_setting plan (told.Template kind.Ip shape))
hosts_after (l ∷ lines) plan = hosts_after lines (with_setting plan l)

count_one : (p : SettingLine → Bool) (line : SettingLine) (test : Bool) → p line ≡ test → length (filter p (line ∷ [])) ≡ one_if test
count_one p line true is = rw is refl
count_one p line false is = rw is refl

count_last : (p : SettingLine → Bool) (lines : List SettingLine) (line : SettingLine) → length (filter p (lines ++ line ∷ [])) ≡ length (filter p lines) + one_if (p line)
count_last p lines line =
    ap (λ (xs : List SettingLine). length xs) (filter-append p lines (line ∷ [])) ∙ length-append (filter p lines) (filter p (line ∷ []))
    ∙ ap (λ (n : ℕ). length (filter p lines) + n) (count_one p line (p line) refl)

-- ---- what is made of the lines, and what they tell

-- what the plan that was made has of the lines
record Has (made : Made) (lines : List SettingLine) : Type 0 where
  pool : made.plan.book.pool ≡ pools lines
  reach : made.plan.book.reach ≡ reaches lines
  routes : made.plan.book.routes ≡ routes lines
  hosts : made.plan.hosts ≡ hosts lines

no_shares : (plain_plan.book.pool ≡ []) × (plain_plan.book.reach ≡ []) × (plain_plan.book.routes ≡ []) × (plain_plan.hosts ≡ [])
unfolding plain_plan
no_shares = (refl, refl, refl, refl)

has : (made : Made) (lines : List SettingLine) → IsSettings made lines → Has made lines
has made lines h =
    let none = no_shares in
    record {
      pool = ap (λ (p : Plan). p.book.pool) h.plan ∙ pool_after lines plain_plan ∙ ap (λ (xs : List Prefix). xs ++ pools lines) none.0;
      reach = ap (λ (p : Plan). p.book.reach) h.plan ∙ reach_after lines plain_plan ∙ ap (λ (xs : List Prefix). xs ++ reaches lines) none.1;
      routes = ap (λ (p : Plan). p.book.routes) h.plan ∙ routes_after lines plain_plan ∙ ap (λ (xs : List Range). xs ++ routes lines) none.2;
      hosts = ap (λ (p : Plan). p.hosts) h.plan ∙ hosts_after lines plain_plan ∙ ap (λ (xs : List Addr). xs ++ hosts lines) none.3;
    }

stands : (made : Made) (lines : List SettingLine) (line : SettingLine) → IsSettings made lines → IsSettings (with_line made line) (lines ++ line ∷ [])
stands made lines line h = record {
  plan = ap (λ (p : Plan). with_setting p line) h.plan ∙ sym (with_last plain_plan lines line);
  names = ap (λ (n : ℕ). n + one_if (is_name line)) h.names ∙ sym (count_last is_name lines line);
  rules = ap (λ (n : ℕ). n + one_if (is_rule line)) h.rules ∙ sym (count_last is_rule lines line);
}

-- ---- apart from two lists, and from both in a row

both : (P : Prefix → Type 0) (xs ys : List Prefix) → AllByRecursion P (xs ++ ys) → AllByRecursion P xs × AllByRecursion P ys
both P [] ys h = (tt, h)
both P (x ∷ xs) ys h = ((h.0, (both P xs ys h.1).0), (both P xs ys h.1).1)

abbrev Away : Prefix → Prefix → Type 0
Away block other = ¬ (Overlap other block)

all_away : (xs : List Prefix) (block : Prefix) → AreApart xs block → All (Away block) xs
all_away xs block a = λ k d less meets. a.none (k, get_or xs k d, less, get_or_default xs k (get_or xs k d) d less, meets)

are_apart : (xs : List Prefix) (block : Prefix) → All (Away block) xs → AreApart xs block
are_apart xs block h =
    record { none = λ (a : Any (λ other. Overlap other block) xs). h a.0 a.1 a.2 (subst (λ other. Overlap other block) (sym a.3) a.4) }

joined : (xs ys : List Prefix) (block : Prefix) → AreApart xs block → AreApart ys block → All (Away block) (xs ++ ys)
joined xs ys block a b = All-append (Away block) xs ys (all_away xs block a) (all_away ys block b)

parted : (xs ys : List Prefix) (block : Prefix) → All (Away block) (xs ++ ys) → AreApart xs block × AreApart ys block
parted xs ys block h =
    let two = both (Away block) xs ys (recursion_from_All (Away block) (xs ++ ys) h) in
    (are_apart xs block (All-from_recursion (Away block) xs two.0), are_apart ys block (All-from_recursion (Away block) ys two.1))

-- ---- there is room exactly where the line may follow

may_follow : (made : Made) (lines : List SettingLine) (line : SettingLine) → IsSettings made lines → Has made lines → HasRoom made line → MayFollow lines line
may_follow made lines (told.Name name addr) h p room = subst (λ (n : ℕ). n < most_names) h.names room
may_follow made lines (told.Rule said) h p room = subst (λ (n : ℕ). n < most_rules) h.rules room
may_follow made lines (told.Pool block) h p room = (
  subst (λ (xs : List Prefix). length xs < most_shares) p.pool room.0,
  joined (pools lines) (reaches lines) block (subst (λ (xs : List Prefix). AreApart xs block) p.pool room.1) (subst (λ (xs : List Prefix). AreApart xs block) p.reach room.2),
)
may_follow made lines (told.Reach block) h p room = (
  subst (λ (xs : List Prefix). length xs < most_shares) p.reach room.0,
  joined (pools lines) (reaches lines) block (subst (λ (xs : List Prefix). AreApart xs block) p.pool room.1) (subst (λ (xs : List Prefix). AreApart xs block) p.reach room.2),
)
may_follow made lines (told.Route range) h p room = subst (λ (xs : List Range). (length xs < most_routes) × MayEnd xs range) p.routes room
may_follow made lines (told.Host addr) h p room = subst (λ (xs : List Addr). length xs < most_hosts) p.hosts room
may_follow made lines (told.Workers count) h p room = tt
may_follow made lines (told.Template kind shape) h p room = tt
may_follow made lines (told.Mtu size) h p room = tt
may_follow made lines (told.History size) h p room = tt

has_room : (made : Made) (lines : List SettingLine) (line : SettingLine) → IsSettings made lines → Has made lines → MayFollow lines line → HasRoom made line
has_room made lines (told.Name name addr) h p may = subst (λ (n : ℕ). n < most_names) (sym h.names) may
has_room made lines (told.Rule said) h p may = subst (λ (n : ℕ). n < most_rules) (sym h.rules) may
has_room made lines (told.Pool block) h p may =
    let two = parted (pools lines) (reaches lines) block may.1 in (
      subst (λ (xs : List Prefix). length xs < most_shares) (sym p.pool) may.0,
      subst (λ (xs : List Prefix). AreApart xs block) (sym p.pool) two.0,
      subst (λ (xs : List Prefix). AreApart xs block) (sym p.reach) two.1,
    )
has_room made lines (told.Reach block) h p may =
    let two = parted (pools lines) (reaches lines) block may.1 in (
      subst (λ (xs : List Prefix). length xs < most_shares) (sym p.reach) may.0,
      subst (λ (xs : List Prefix). AreApart xs block) (sym p.pool) two.0,
      subst (λ (xs : List Prefix). AreApart xs block) (sym p.reach) two.1,
    )
has_room made lines (told.Route range) h p may = subst (λ (xs : List Range). (length xs < most_routes) × MayEnd xs range) (sym p.routes) may
has_room made lines (told.Host addr) h p may = subst (λ (xs : List Addr). length xs < most_hosts) (sym p.hosts) may
has_room made lines (told.Workers count) h p may = tt
has_room made lines (told.Template kind shape) h p may = tt
has_room made lines (told.Mtu size) h p may = tt
has_room made lines (told.History size) h p may = tt

pub grown : (old new : Made) (line : SettingLine) (r : Result Bool NoMemory) → Grows old line r new → (lines : List SettingLine) → IsSettings old lines → Adds old lines line r new
grown old new line (Ok true) h lines is =
    (may_follow old lines line is (has old lines is) h.0, subst (λ (made : Made). IsSettings made (lines ++ line ∷ [])) (sym h.1) (stands old lines line is))
grown old new line (Ok false) h lines is = ((λ may. h.0 (has_room old lines line is (has old lines is) may)), h.1)
grown old new line (Err e) h lines is = h
