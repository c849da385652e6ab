-- Settings make plans that a proxy may have: each line says what it may, and stands behind the others where it may.
use Rattle.std.proofs.Common.{◌≡◌, ℕ, ◌+◌, ◌<◌, ◌≤◌, Bool, true, false, List, [], ◌∷◌, ◌++◌, length, Option, Some, None, codes, subst, sym, ap, refl, ◌∙◌, inl, inr, arith, append_assoc, append-nil}
use Rattle.std.specs.List.{AllByRecursion, All, AllPairs, filter, filter_map, cons_option}
use Rattle.std.proofs.lemmas.List.{length-append}
use Rattle.std.proofs.lemmas.List.Elements.{All-from_recursion, recursion_from_All}
use Rattle.std.proofs.lemmas.List.Kept.{AllPairs-cons}
use Rattle.mq_addr.specs.declared.addr.Addr.{Addr}
use Rattle.mq_addr.specs.declared.kind.Kind.{Kind}
use Rattle.mq_addr.specs.declared.kind.Kind.TheVariants as kind
use Rattle.mq_addr.specs.declared.prefix.Prefix.{Prefix}
use Rattle.mq_addr.specs.declared.range.Range.{Range}
use Rattle.mq_addr.specs.Block.{Overlap}
use Rattle.mq_addr.specs.Ranges.{IsRange, Precedes}
use Rattle.mq_talk.specs.declared.book.Config.{Config}
use Rattle.mq_talk.specs.Config.{HasNoZero, IsConfig}
use Rattle.mq_target.specs.Classes.{is_name_byte, is_unreserved, is_literal, is_delimiter}
use Rattle.mq_target.specs.Template.{target_name, detail_name, IsPlain, well_known}
use Rattle.mq_machine.specs.declared.setup.Setup.{Setup}
use Rattle.mq_play.specs.declared.line.Line.{Line}
use Rattle.mq_play.specs.declared.line.Line.TheVariants as line
use Rattle.mq_play.specs.declared.line.SettingLine.{SettingLine}
use Rattle.mq_play.specs.declared.line.SettingLine.TheVariants as setting
use Rattle.mq_play.specs.declared.plan.Plan.{Plan}
use Rattle.mq_play.specs.declared.word.SettingWord.{SettingWord}
use Rattle.mq_play.specs.declared.word.SettingWord.TheVariants as word
use Rattle.mq_play.specs.declared.word.Word.{Word}
use Rattle.mq_play.specs.declared.word.Word.TheVariants as first
use Rattle.mq_play.specs.Settings.{IsTemplateOf, SaysRule, SaysSetting, is_rule, pool_of, reach_of, route_of, host_of, pools, reaches, routes, hosts, MayFollow, plain_plan, with_setting, with_settings, plan_of, IsSetup, IsPlan}
use Rattle.mq_play.specs.Lines.{SaysBehind, Says}
use Rattle.mq_play.proofs.Lists.{each_append}

-- ---- what lines say

abbrev SaidSetting : SettingLine → Type 0
SaidSetting (setting.Workers count) = (1 ≤ count) × (count ≤ 4)
SaidSetting (setting.Template kind shape) = (text : List ℕ) × IsTemplateOf kind text shape
SaidSetting (setting.Name name addr) = Unit {0}
SaidSetting (setting.Rule said) = Unit {0}
SaidSetting (setting.Pool block) = HasNoZero block
SaidSetting (setting.Reach block) = HasNoZero block
SaidSetting (setting.Route range) = IsRange range
SaidSetting (setting.Host addr) = Unit {0}
SaidSetting (setting.Mtu size) = (1280 ≤ size) × (size ≤ 65535)
SaidSetting (setting.History size) = (4 ≤ size) × (size ≤ 262144)

said_rule : (allow : Bool) (k : Kind) (block : Option Prefix) (text : List ℕ) (said : SettingLine) → SaysRule allow k block text said → SaidSetting said
said_rule allow kind.Udp block text said x = subst SaidSetting (sym x.behind.said_is) tt
said_rule allow kind.Ip block text said x = subst SaidSetting (sym x.said_is) tt

said_setting : (w : SettingWord) (text : List ℕ) (said : SettingLine) → SaysSetting w text said → SaidSetting said
said_setting word.Workers text said x = subst SaidSetting (sym x.said_is) (x.says.least, x.says.most)
said_setting word.Template text said x = subst SaidSetting (sym x.behind.said_is) (x.rest, x.behind.says)
said_setting word.Name text said x = subst SaidSetting (sym x.behind.said_is) tt
said_setting word.Allow text said x = said_rule true x.first x.behind.first x.behind.rest said x.behind.behind
said_setting word.Deny text said x = said_rule false x.first x.behind.first x.behind.rest said x.behind.behind
said_setting word.Pool text said x = subst SaidSetting (sym x.said_is) x.says.1
said_setting word.Reach text said x = subst SaidSetting (sym x.said_is) x.says.1
said_setting word.Route text said x = subst SaidSetting (sym x.said_is) x.says.1
said_setting word.Host text said x = subst SaidSetting (sym x.said_is) tt
said_setting word.Mtu text said x = subst SaidSetting (sym x.said_is) (x.says.least, x.says.most)
said_setting word.History text said x = subst SaidSetting (sym x.said_is) (x.says.least, x.says.most)

abbrev SaidLine : Line → Type 0
SaidLine (line.Setting said) = SaidSetting said
SaidLine said = Unit {0}

said_behind : (w : Word) (text : List ℕ) (said : Line) → SaysBehind w text said → SaidLine said
said_behind (first.Setting w) text said x = subst SaidLine (sym x.said_is) (said_setting w text x.value x.says)
said_behind first.Bytes text said x = subst SaidLine (sym x.behind.said_is) tt
said_behind first.Text text said x = subst SaidLine (sym x.behind.said_is) tt
said_behind first.Fill text said x = subst SaidLine (sym x.behind.said_is) tt
said_behind first.Room text said x = subst SaidLine (sym x.behind.said_is) tt
said_behind first.Dgram text said x = subst SaidLine (sym x.behind.said_is) tt
said_behind first.Packet text said x = subst SaidLine (sym x.behind.said_is) tt
said_behind first.Step text said (inl x) = subst SaidLine (sym x.said_is) tt
said_behind first.Step text said (inr x) = subst SaidLine (sym x.behind.said_is) tt
said_behind w text said x = subst SaidLine (sym x.said_is) tt

said_line : (text : List ℕ) (said : Line) → Says text said → SaidLine said
said_line text said (inl blank) = subst SaidLine (sym blank.1) tt
said_line text said (inr (inl alone)) = subst SaidLine (sym alone.said_is) tt
said_line text said (inr (inr words)) = said_behind words.first words.rest said words.behind

-- ---- what plans have of the lines

pool_after : (lines : List SettingLine) (plan : Plan) → (with_settings plan lines).book.pool ≡ plan.book.pool ++ pools lines
pool_after [] plan = sym (append-nil plan.book.pool)
pool_after (setting.Pool block ∷ lines) plan = pool_after lines (with_setting plan (setting.Pool block)) ∙ append_assoc plan.book.pool (block ∷ []) (pools lines)
pool_after (setting.Template kind.Udp shape ∷ lines) plan = pool_after lines (with_setting plan (setting.Template kind.Udp shape))
pool_after (setting.Template kind.Ip shape ∷ lines) plan = pool_after lines (with_setting plan (setting.Template kind.Ip shape))
pool_after (l ∷ lines) plan = pool_after lines (with_setting plan l)

reach_after : (lines : List SettingLine) (plan : Plan) → (with_settings plan lines).book.reach ≡ plan.book.reach ++ reaches lines
reach_after [] plan = sym (append-nil plan.book.reach)
reach_after (setting.Reach block ∷ lines) plan = reach_after lines (with_setting plan (setting.Reach block)) ∙ append_assoc plan.book.reach (block ∷ []) (reaches lines)
reach_after (setting.Template kind.Udp shape ∷ lines) plan = reach_after lines (with_setting plan (setting.Template kind.Udp shape))
reach_after (setting.Template kind.Ip shape ∷ lines) plan = reach_after lines (with_setting plan (setting.Template kind.Ip shape))
reach_after (l ∷ lines) plan = reach_after lines (with_setting plan l)

routes_after : (lines : List SettingLine) (plan : Plan) → (with_settings plan lines).book.routes ≡ plan.book.routes ++ routes lines
routes_after [] plan = sym (append-nil plan.book.routes)
routes_after (setting.Route range ∷ lines) plan = routes_after lines (with_setting plan (setting.Route range)) ∙ append_assoc plan.book.routes (range ∷ []) (routes lines)
routes_after (setting.Template kind.Udp shape ∷ lines) plan = routes_after lines (with_setting plan (setting.Template kind.Udp shape))
routes_after (setting.Template kind.Ip shape ∷ lines) plan = routes_after lines (with_setting plan (setting.Template kind.Ip shape))
routes_after (l ∷ lines) plan = routes_after lines (with_setting plan l)

hosts_after : (lines : List SettingLine) (plan : Plan) → (with_settings plan lines).hosts ≡ plan.hosts ++ hosts lines
hosts_after [] plan = sym (append-nil plan.hosts)
hosts_after (setting.Host addr ∷ lines) plan = hosts_after lines (with_setting plan (setting.Host addr)) ∙ append_assoc plan.hosts (addr ∷ []) (hosts lines)
hosts_after (setting.Template kind.Udp shape ∷ lines) plan = hosts_after lines (with_setting plan (setting.Template kind.Udp shape))
hosts_after (setting.Template kind.Ip shape ∷ lines) plan = hosts_after lines (with_setting plan (setting.Template kind.Ip shape))
hosts_after (l ∷ lines) plan = hosts_after lines (with_setting plan l)

rules_after : (lines : List SettingLine) (plan : Plan) → length (with_settings plan lines).setup.policy.rules ≡ length plan.setup.policy.rules + length (filter is_rule lines)
rules_after [] plan = omega arith
rules_after (setting.Rule said ∷ lines) plan =
    let more = rules_after lines (with_setting plan (setting.Rule said)) in
    let one : length (plan.setup.policy.rules ++ said ∷ []) ≡ length plan.setup.policy.rules + 1 = length-append plan.setup.policy.rules (said ∷ []) in
    omega arith
rules_after (setting.Template kind.Udp shape ∷ lines) plan = rules_after lines (with_setting plan (setting.Template kind.Udp shape))
rules_after (setting.Template kind.Ip shape ∷ lines) plan = rules_after lines (with_setting plan (setting.Template kind.Ip shape))
rules_after (l ∷ lines) plan = rules_after lines (with_setting plan l)

-- the last setting is told last
with_last : (plan : Plan) (lines : List SettingLine) (said : SettingLine) → with_settings plan (lines ++ said ∷ []) ≡ with_setting (with_settings plan lines) said
with_last plan [] said = refl
with_last plan (l ∷ lines) said = with_last (with_setting plan l) lines said

-- ---- lists of blocks and ranges

abbrev Pairs : {A : Type 0} → (A → A → Type 0) → List A → Type 0
Pairs R [] = Unit {0}
Pairs R (x ∷ xs) = AllByRecursion (R x) xs × Pairs R xs

each_insert : {A : Type 0} (P : A → Type 0) (xs ys : List A) (p : A) → AllByRecursion P (xs ++ ys) → P p → AllByRecursion P ((xs ++ p ∷ []) ++ ys)
each_insert P [] ys p h k = (k, h)
each_insert P (x ∷ xs) ys p h k = (h.0, each_insert P xs ys p h.1 k)

-- of a relation that goes both ways
each_back : {A : Type 0} (R : A → A → Type 0) (xs : List A) (p : A) → ((a b : A) → R a b → R b a) → AllByRecursion (λ x. R x p) xs → AllByRecursion (R p) xs
each_back R [] p back h = tt
each_back R (x ∷ xs) p back h = (back x p h.0, each_back R xs p back h.1)

pairs_insert : {A : Type 0} (R : A → A → Type 0) (xs ys : List A) (p : A) → ((a b : A) → R a b → R b a) → Pairs R (xs ++ ys) → AllByRecursion (λ x. R x p) (xs ++ ys) → Pairs R ((xs ++ p ∷ []) ++ ys)
pairs_insert R [] ys p back h k = (each_back R ys p back k, h)
pairs_insert R (x ∷ xs) ys p back h k = (each_insert (R x) xs ys p h.0 k.0, pairs_insert R xs ys p back h.1 k.1)

pairs_push : {A : Type 0} (R : A → A → Type 0) (xs : List A) (p : A) → Pairs R xs → AllByRecursion (λ x. R x p) xs → Pairs R (xs ++ p ∷ [])
pairs_push R [] p h k = (tt, tt)
pairs_push R (x ∷ xs) p h k = (each_append (R x) xs (p ∷ []) h.0 (k.0, tt), pairs_push R xs p h.1 k.1)

all_pairs : {A : Type 0} (R : A → A → Type 0) (xs : List A) → Pairs R xs → AllPairs R xs
all_pairs R [] h = λ i j d lt within. absurd (omega arith)
all_pairs R (x ∷ xs) h = AllPairs-cons R x xs (All-from_recursion (R x) xs h.0) (all_pairs R xs h.1)

-- ---- shares, routes and hosts

abbrev Apart : Prefix → Prefix → Type 0
Apart a b = ¬ (Overlap a b)

apart_back : (a b : Prefix) → Apart a b → Apart b a
apart_back a b h (x, left, right) = h (x, right, left)

record AreShares (ps rs : List Prefix) (ws : List Range) (hs : List Addr) : Type 0 where
  few_pools : length ps ≤ 16
  few_reaches : length rs ≤ 16
  few_routes : length ws ≤ 32
  few_hosts : length hs ≤ 64
  apart : Pairs Apart (ps ++ rs)
  no_zero : AllByRecursion HasNoZero (ps ++ rs)
  ranges : AllByRecursion IsRange ws
  ordered : Pairs (Precedes 0) ws

abbrev SharesOf : List SettingLine → Type 0
SharesOf lines = AreShares (pools lines) (reaches lines) (routes lines) (hosts lines)

shares_as : (ps ps2 rs rs2 : List Prefix) (ws ws2 : List Range) (hs hs2 : List Addr) → ps ≡ ps2 → rs ≡ rs2 → ws ≡ ws2 → hs ≡ hs2 → AreShares ps2 rs2 ws2 hs2 → AreShares ps rs ws hs
shares_as ps ps2 rs rs2 ws ws2 hs hs2 a b c d h =
    subst (λ (x : List Prefix). AreShares x rs ws hs) (sym a) (subst (λ (x : List Prefix). AreShares ps2 x ws hs) (sym b)
    (subst (λ (x : List Range). AreShares ps2 rs2 x hs) (sym c) (subst (λ (x : List Addr). AreShares ps2 rs2 ws2 x) (sym d) h)))

filter_last : {A B : Type 0} (f : A → Option B) (xs : List A) (x : A) → filter_map f (xs ++ x ∷ []) ≡ filter_map f xs ++ cons_option (f x) []
filter_last f [] x = refl
filter_last f (y ∷ ys) x = cons_last (f y) (filter_map f (ys ++ x ∷ [])) (filter_map f ys) (cons_option (f x) []) (filter_last f ys x) where
  cons_last : {B : Type 0} (o : Option B) (us vs ws : List B) → us ≡ vs ++ ws → cons_option o us ≡ cons_option o vs ++ ws
  cons_last None us vs ws e = e
  cons_last (Some b) us vs ws e = ap (λ (zs : List _). b ∷ zs) e

more_shares : (lines : List SettingLine) (said : SettingLine) → SharesOf lines → AreShares (pools lines ++ cons_option (pool_of said) []) (reaches lines ++ cons_option (reach_of said) []) (routes lines ++ cons_option (route_of said) []) (hosts lines ++ cons_option (host_of said) [])
    → SharesOf (lines ++ said ∷ [])
more_shares lines said h k =
    shares_as (pools (lines ++ said ∷ [])) (pools lines ++ cons_option (pool_of said) []) (reaches (lines ++ said ∷ [])) (reaches lines ++ cons_option (reach_of said) [])
    (routes (lines ++ said ∷ [])) (routes lines ++ cons_option (route_of said) []) (hosts (lines ++ said ∷ [])) (hosts lines ++ cons_option (host_of said) [])
    (filter_last pool_of lines said) (filter_last reach_of lines said) (filter_last route_of lines said) (filter_last host_of lines said) k

-- a line that is none of these adds nothing
same_shares : (ps rs : List Prefix) (ws : List Range) (hs : List Addr) → AreShares ps rs ws hs → AreShares (ps ++ []) (rs ++ []) (ws ++ []) (hs ++ [])
same_shares ps rs ws hs h =
    shares_as (ps ++ []) ps (rs ++ []) rs (ws ++ []) ws (hs ++ []) hs (append-nil ps) (append-nil rs) (append-nil ws) (append-nil hs) h

pushed_length : {A : Type 0} (xs : List A) (x : A) (most : ℕ) → length xs < most → length (xs ++ x ∷ []) ≤ most
pushed_length xs x most h = let one : length (xs ++ x ∷ []) ≡ length xs + 1 = length-append xs (x ∷ []) in omega arith

with_pool : (ps rs : List Prefix) (ws : List Range) (hs : List Addr) (b : Prefix) → AreShares ps rs ws hs → length ps < 16 → All (λ x. Apart x b) (ps ++ rs) → HasNoZero b → AreShares (ps ++ b ∷ []) rs ws hs
with_pool ps rs ws hs b h few apart zero_free = record {
  few_pools = pushed_length ps b 16 few;
  few_reaches = h.few_reaches;
  few_routes = h.few_routes;
  few_hosts = h.few_hosts;
  apart = pairs_insert Apart ps rs b apart_back h.apart (recursion_from_All (λ x. Apart x b) (ps ++ rs) apart);
  no_zero = each_insert HasNoZero ps rs b h.no_zero zero_free;
  ranges = h.ranges;
  ordered = h.ordered;
}

with_reach : (ps rs : List Prefix) (ws : List Range) (hs : List Addr) (b : Prefix) → AreShares ps rs ws hs → length rs < 16 → All (λ x. Apart x b) (ps ++ rs) → HasNoZero b → AreShares ps (rs ++ b ∷ []) ws hs
with_reach ps rs ws hs b h few apart zero_free = record {
  few_pools = h.few_pools;
  few_reaches = pushed_length rs b 16 few;
  few_routes = h.few_routes;
  few_hosts = h.few_hosts;
  apart = subst (λ (xs : List Prefix). Pairs Apart xs) (append_assoc ps rs (b ∷ [])) (pairs_push Apart (ps ++ rs) b h.apart (recursion_from_All (λ x. Apart x b) (ps ++ rs) apart));
  no_zero = subst (λ (xs : List Prefix). AllByRecursion HasNoZero xs) (append_assoc ps rs (b ∷ [])) (each_append HasNoZero (ps ++ rs) (b ∷ []) h.no_zero (zero_free, tt));
  ranges = h.ranges;
  ordered = h.ordered;
}

with_route : (ps rs : List Prefix) (ws : List Range) (hs : List Addr) (r : Range) → AreShares ps rs ws hs → length ws < 32 → All (λ x. Precedes 0 x r) ws → IsRange r → AreShares ps rs (ws ++ r ∷ []) hs
with_route ps rs ws hs r h few behind is = record {
  few_pools = h.few_pools;
  few_reaches = h.few_reaches;
  few_routes = pushed_length ws r 32 few;
  few_hosts = h.few_hosts;
  apart = h.apart;
  no_zero = h.no_zero;
  ranges = each_append IsRange ws (r ∷ []) h.ranges (is, tt);
  ordered = pairs_push (Precedes 0) ws r h.ordered (recursion_from_All (λ x. Precedes 0 x r) ws behind);
}

with_host : (ps rs : List Prefix) (ws : List Range) (hs : List Addr) (a : Addr) → AreShares ps rs ws hs → length hs < 64 → AreShares ps rs ws (hs ++ a ∷ [])
with_host ps rs ws hs a h few = record {
  few_pools = h.few_pools;
  few_reaches = h.few_reaches;
  few_routes = h.few_routes;
  few_hosts = pushed_length hs a 64 few;
  apart = h.apart;
  no_zero = h.no_zero;
  ranges = h.ranges;
  ordered = h.ordered;
}

-- the three lists that a line doesn't change
pool_shares : (ps rs : List Prefix) (ws : List Range) (hs : List Addr) → AreShares ps rs ws hs → AreShares ps (rs ++ []) (ws ++ []) (hs ++ [])
pool_shares ps rs ws hs h = shares_as ps ps (rs ++ []) rs (ws ++ []) ws (hs ++ []) hs refl (append-nil rs) (append-nil ws) (append-nil hs) h

reach_shares : (ps rs : List Prefix) (ws : List Range) (hs : List Addr) → AreShares ps rs ws hs → AreShares (ps ++ []) rs (ws ++ []) (hs ++ [])
reach_shares ps rs ws hs h = shares_as (ps ++ []) ps rs rs (ws ++ []) ws (hs ++ []) hs (append-nil ps) refl (append-nil ws) (append-nil hs) h

route_shares : (ps rs : List Prefix) (ws : List Range) (hs : List Addr) → AreShares ps rs ws hs → AreShares (ps ++ []) (rs ++ []) ws (hs ++ [])
route_shares ps rs ws hs h = shares_as (ps ++ []) ps (rs ++ []) rs ws ws (hs ++ []) hs (append-nil ps) (append-nil rs) refl (append-nil hs) h

host_shares : (ps rs : List Prefix) (ws : List Range) (hs : List Addr) → AreShares ps rs ws hs → AreShares (ps ++ []) (rs ++ []) (ws ++ []) hs
host_shares ps rs ws hs h = shares_as (ps ++ []) ps (rs ++ []) rs (ws ++ []) ws hs hs (append-nil ps) (append-nil rs) (append-nil ws) refl h

shares_with : (lines : List SettingLine) (said : SettingLine) → SharesOf lines → MayFollow lines said → SaidSetting said → SharesOf (lines ++ said ∷ [])
shares_with lines (setting.Pool b) h may said =
    more_shares lines (setting.Pool b) h (pool_shares (pools lines ++ b ∷ []) (reaches lines) (routes lines) (hosts lines) (with_pool (pools lines) (reaches lines) (routes lines) (hosts lines) b h may.0 may.1 said))
shares_with lines (setting.Reach b) h may said =
    more_shares lines (setting.Reach b) h (reach_shares (pools lines) (reaches lines ++ b ∷ []) (routes lines) (hosts lines) (with_reach (pools lines) (reaches lines) (routes lines) (hosts lines) b h may.0 may.1 said))
shares_with lines (setting.Route r) h may said =
    more_shares lines (setting.Route r) h (route_shares (pools lines) (reaches lines) (routes lines ++ r ∷ []) (hosts lines) (with_route (pools lines) (reaches lines) (routes lines) (hosts lines) r h may.0 may.1 said))
shares_with lines (setting.Host a) h may said =
    more_shares lines (setting.Host a) h (host_shares (pools lines) (reaches lines) (routes lines) (hosts lines ++ a ∷ []) (with_host (pools lines) (reaches lines) (routes lines) (hosts lines) a h may))
shares_with lines said h may told = more_shares lines said h (same_shares (pools lines) (reaches lines) (routes lines) (hosts lines) h)

-- ---- numbers and templates

record AreNumbers (plan : Plan) : Type 0 where
  some : 1 ≤ plan.workers
  few : plan.workers ≤ 4
  setup : IsSetup plan.workers plan.setup
  workers_are : plan.book.workers ≡ plan.workers
  least_history : 4 ≤ plan.book.history
  most_history : plan.book.history ≤ 262144

-- the setup is another, or only it
numbers_with : (plan : Plan) (setup : Setup) → AreNumbers plan → IsSetup plan.workers setup → AreNumbers (record plan { setup = setup })
numbers_with plan setup h k = record { some = h.some; few = h.few; setup = k; workers_are = h.workers_are; least_history = h.least_history; most_history = h.most_history }

numbers_after : (lines : List SettingLine) (said : SettingLine) (plan : Plan) → length plan.setup.policy.rules ≡ length (filter is_rule lines) → AreNumbers plan → MayFollow lines said → SaidSetting said → AreNumbers (with_setting plan said)
numbers_after lines (setting.Workers count) plan e h may said = record {
  some = said.0;
  few = said.1;
  setup = record { pump = refl; udp = h.setup.udp; ip = h.setup.ip; least_mtu = h.setup.least_mtu; most_mtu = h.setup.most_mtu; rules = h.setup.rules };
  workers_are = refl;
  least_history = h.least_history;
  most_history = h.most_history;
}
numbers_after lines (setting.Template kind.Udp shape) plan e h may said =
    numbers_with plan (record plan.setup { udp = shape }) h (record { pump = h.setup.pump; udp = said; ip = h.setup.ip; least_mtu = h.setup.least_mtu; most_mtu = h.setup.most_mtu; rules = h.setup.rules })
numbers_after lines (setting.Template kind.Ip shape) plan e h may said =
    numbers_with plan (record plan.setup { ip = shape }) h (record { pump = h.setup.pump; udp = h.setup.udp; ip = said; least_mtu = h.setup.least_mtu; most_mtu = h.setup.most_mtu; rules = h.setup.rules })
numbers_after lines (setting.Name name addr) plan e h may said =
    numbers_with plan (with_setting plan (setting.Name name addr)).setup h (record { pump = h.setup.pump; udp = h.setup.udp; ip = h.setup.ip; least_mtu = h.setup.least_mtu; most_mtu = h.setup.most_mtu; rules = h.setup.rules })
numbers_after lines (setting.Rule rule) plan e h may said =
    numbers_with plan (with_setting plan (setting.Rule rule)).setup h (record {
      pump = h.setup.pump;
      udp = h.setup.udp;
      ip = h.setup.ip;
      least_mtu = h.setup.least_mtu;
      most_mtu = h.setup.most_mtu;
      rules = pushed_length plan.setup.policy.rules rule 256 (subst (λ (n : ℕ). n < 256) (sym e) may);
    })
numbers_after lines (setting.Mtu size) plan e h may said =
    numbers_with plan (record plan.setup { mtu = size }) h (record { pump = h.setup.pump; udp = h.setup.udp; ip = h.setup.ip; least_mtu = said.0; most_mtu = said.1; rules = h.setup.rules })
numbers_after lines (setting.History size) plan e h may said =
    record { some = h.some; few = h.few; setup = h.setup; workers_are = h.workers_are; least_history = said.0; most_history = said.1 }
numbers_after lines said plan e h may told =
    record { some = h.some; few = h.few; setup = h.setup; workers_are = h.workers_are; least_history = h.least_history; most_history = h.most_history }

-- ---- plans

pub record IsKept (lines : List SettingLine) : Type 0 where
  shares : SharesOf lines
  numbers : AreNumbers (plan_of lines)

well_known_udp : IsPlain (codes "/.well-known/masque/udp/{target_host}/{target_port}/") (well_known kind.Udp)
unfolding target_name detail_name is_name_byte is_unreserved is_literal is_delimiter
well_known_udp = record { is = refl; start = (refl, refl); around = record { delimited = refl; between_literals = refl; ended = refl; after_literals = refl } }

well_known_ip : IsPlain (codes "/.well-known/masque/ip/{target}/{ipproto}/") (well_known kind.Ip)
unfolding target_name detail_name is_name_byte is_unreserved is_literal is_delimiter
well_known_ip = record { is = refl; start = (refl, refl); around = record { delimited = refl; between_literals = refl; ended = refl; after_literals = refl } }

plain_setup : IsSetup 1 plain_plan.setup
unfolding plain_plan
plain_setup = record {
  pump = refl;
  udp = (codes "/.well-known/masque/udp/{target_host}/{target_port}/", (inl well_known_udp, refl));
  ip = (codes "/.well-known/masque/ip/{target}/{ipproto}/", (inl well_known_ip, refl));
  least_mtu = omega arith;
  most_mtu = omega arith;
  rules = omega arith;
}

plain_numbers : AreNumbers plain_plan
unfolding plain_plan
plain_numbers = record { some = omega arith; few = omega arith; setup = plain_setup; workers_are = refl; least_history = omega arith; most_history = omega arith }

pub none_kept : IsKept []
none_kept = record {
  shares = record { few_pools = omega arith; few_reaches = omega arith; few_routes = omega arith; few_hosts = omega arith; apart = tt; no_zero = tt; ranges = tt; ordered = tt };
  numbers = plain_numbers;
}

no_rules : length plain_plan.setup.policy.rules ≡ 0
unfolding plain_plan
no_rules = refl

pub more_kept : (text : List ℕ) (lines : List SettingLine) (said : SettingLine) → Says text (line.Setting said) → IsKept lines → MayFollow lines said → IsKept (lines ++ said ∷ [])
more_kept text lines said says h may =
    let told = said_line text (line.Setting said) says in
    let none = no_rules in
    let count = rules_after lines plain_plan in
    record {
      shares = shares_with lines said h.shares may told;
      numbers = subst AreNumbers (sym (with_last plain_plan lines said)) (numbers_after lines said (plan_of lines) (omega arith) h.numbers may told);
    }

no_book : (plain_plan.book.pool ≡ []) × (plain_plan.book.reach ≡ []) × (plain_plan.book.routes ≡ []) × (plain_plan.hosts ≡ [])
unfolding plain_plan
no_book = (refl, refl, refl, refl)

shares_config : (config : Config) (ps rs : List Prefix) (ws : List Range) (hs : List Addr) → config.pool ≡ ps → config.reach ≡ rs → config.routes ≡ ws → AreShares ps rs ws hs → IsConfig config
shares_config config ps rs ws hs a b c k =
    let h = shares_as config.pool ps config.reach rs config.routes ws hs hs a b c refl k in
    record {
      few_pools = h.few_pools;
      few_reaches = h.few_reaches;
      few_routes = h.few_routes;
      apart = all_pairs Apart (config.pool ++ config.reach) h.apart;
      no_zero = All-from_recursion HasNoZero (config.pool ++ config.reach) h.no_zero;
      ordered = record { ranges_are = All-from_recursion IsRange config.routes h.ranges; ordered = all_pairs (Precedes 0) config.routes h.ordered };
    }

pub kept_plan : (lines : List SettingLine) → IsKept lines → IsPlan (plan_of lines)
kept_plan lines h =
    let plan = plan_of lines in
    let none = no_book in
    let pool_is : plan.book.pool ≡ pools lines = pool_after lines plain_plan ∙ ap (λ (xs : List Prefix). xs ++ pools lines) none.0 in
    let reach_is : plan.book.reach ≡ reaches lines = reach_after lines plain_plan ∙ ap (λ (xs : List Prefix). xs ++ reaches lines) none.1 in
    let routes_are : plan.book.routes ≡ routes lines = routes_after lines plain_plan ∙ ap (λ (xs : List Range). xs ++ routes lines) none.2 in
    let hosts_are : plan.hosts ≡ hosts lines = hosts_after lines plain_plan ∙ ap (λ (xs : List Addr). xs ++ hosts lines) none.3 in
    record {
      some = h.numbers.some;
      few = h.numbers.few;
      setup = h.numbers.setup;
      book = record {
        workers_are = h.numbers.workers_are;
        least_history = h.numbers.least_history;
        most_history = h.numbers.most_history;
        config = shares_config plan.book (pools lines) (reaches lines) (routes lines) (hosts lines) pool_is reach_is routes_are h.shares;
      };
      hosts = subst (λ (xs : List Addr). length xs ≤ 64) (sym hosts_are) h.shares.few_hosts;
    }
