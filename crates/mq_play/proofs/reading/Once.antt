-- A line says one thing.
use Rattle.std.proofs.Common.{◌≡◌, ℕ, ◌==◌, Bool, true, false, List, [], ◌∷◌, ◌++◌, codes, get_or, refl, sym, ◌∙◌, ap, subst, arith, Option, inl, inr}
use Rattle.mq_text.specs.Cut.{Lacks, IsCutOnce}
use Rattle.mq_addr.specs.declared.kind.Kind.{Kind}
use Rattle.mq_addr.specs.declared.kind.Kind.TheVariants as kind
use Rattle.mq_addr.specs.declared.prefix.Prefix.{Prefix}
use Rattle.mq_addr.specs.Addr.{HasAddrBytes, HasOneAddr, IsAddrText}
use Rattle.mq_addr.specs.Prefixes.{HasOnePrefix}
use Rattle.mq_machine.specs.declared.event.Event.{Event}
use Rattle.mq_machine.specs.declared.event.Event.TheVariants as event
use Rattle.mq_policy.specs.declared.rule.Rule.TheVariants as rule
use Rattle.mq_play.specs.declared.line.Line.{Line}
use Rattle.mq_play.specs.declared.line.Line.TheVariants as line
use Rattle.mq_play.specs.declared.line.SettingLine.TheVariants as told
use Rattle.mq_play.specs.declared.word.Word.{Word}
use Rattle.mq_play.specs.declared.word.Word.TheVariants as word
use Rattle.mq_play.specs.declared.word.SettingWord.{SettingWord}
use Rattle.mq_play.specs.declared.word.SettingWord.TheVariants as setting
use Rattle.mq_play.specs.Lines.{IsActor, IsAlone, IsBlank, IsFilled, IsPacket, IsPayload, IsWord, Says, SaysBehind, SaysPiece, SaysSteps, word_text}
use Rattle.mq_play.specs.Parts.{IsHex, IsName, IsNumber, IsNumberOr, IsText, Means, Parted}
use Rattle.mq_play.specs.Settings.{IsBlock, IsKind, IsNamed, IsRoute, IsShare, IsTemplateOf, SaysRule, SaysSetting}
use Rattle.mq_play.proofs.reading.Lacking.{class_lacks, is_visible}
use Rattle.mq_play.proofs.reading.Parted.{IsSingle, means_once, number_lacks, number_once, parted_once, parted_none}
use Rattle.mq_play.proofs.reading.Singles.{actor_once, actors_lack, block_once, blocks_lack, filled_once, hex_once, name_once, named_once, nameds_lack, names_lack, protocol_once, room_once, route_once, share_once, template_once, text_once}
use Rattle.mq_play.proofs.reading.Words.{kind_once, kinds_lack, word_first, word_once, words_lack}

module _ (once : IsCutOnce) (bytes : HasAddrBytes) (addr : HasOneAddr) (prefix : HasOnePrefix) where
  pub rule_once : (allow : Bool) (k : Kind) (block : Option Prefix) → IsSingle (SaysRule allow k block)
  rule_once allow kind.Udp block = parted_once (IsNumber 1 65535) _ once (number_lacks 1 65535 (omega arith)) (number_once 1 65535 (omega arith)) (λ low. means_once (IsNumber low 65535) (λ (high : ℕ). told.Rule (rule.Udp allow block low high)) (number_once low 65535 (omega arith)))
  rule_once allow kind.Ip block = means_once (IsNumberOr (codes "*") 255) (λ (protocol : Option ℕ). told.Rule (rule.Ip allow block protocol)) protocol_once

  pub rules_once : (allow : Bool) (k : Kind) → IsSingle (Parted IsBlock (SaysRule allow k))
  rules_once allow k = parted_once IsBlock (SaysRule allow k) once (blocks_lack bytes) (block_once bytes prefix) (rule_once allow k)

  pub setting_once : (w : SettingWord) → IsSingle (SaysSetting w)
  setting_once setting.Workers = means_once (IsNumber 1 4) told.Workers (number_once 1 4 (omega arith))
  setting_once setting.Template = parted_once IsKind _ once kinds_lack kind_once (λ k. means_once (IsTemplateOf k) (told.Template k) (template_once once k))
  setting_once setting.Name = parted_once IsNamed _ once nameds_lack named_once (λ name. means_once IsAddrText (told.Name name) addr)
  setting_once setting.Allow = parted_once IsKind _ once kinds_lack kind_once (rules_once true)
  setting_once setting.Deny = parted_once IsKind _ once kinds_lack kind_once (rules_once false)
  setting_once setting.Pool = means_once IsShare told.Pool (share_once prefix)
  setting_once setting.Reach = means_once IsShare told.Reach (share_once prefix)
  setting_once setting.Route = means_once IsRoute told.Route (route_once once bytes addr)
  setting_once setting.Host = means_once IsAddrText told.Host addr
  setting_once setting.Mtu = means_once (IsNumber 1280 65535) told.Mtu (number_once 1280 65535 (omega arith))
  setting_once setting.History = means_once (IsNumber 4 262144) told.History (number_once 4 262144 (omega arith))

  piece_once : (IsSpelled : List ℕ → List ℕ → Type 0) → IsSingle IsSpelled → IsSingle (SaysPiece IsSpelled)
  piece_once IsSpelled single = parted_once IsName _ once names_lack name_once (λ conn. means_once IsSpelled (λ (spelled : List ℕ). line.Happens (event.Piece conn spelled)) single)

  alone_or_two : (text : List ℕ) (a b : Line) → Means IsActor (λ (actor : ℕ). line.Steps actor 1) text a → Parted IsActor (λ actor. Means (IsNumber 1 1000000) (line.Steps actor)) text b → ⊥
  alone_or_two text a b h k = parted_none IsActor (λ actor. Means (IsNumber 1 1000000) (line.Steps actor)) text (actors_lack text h.value h.says) b k

  pub steps_once : IsSingle SaysSteps
  steps_once text a b (inl h) (inl k) = means_once IsActor (λ (actor : ℕ). line.Steps actor 1) actor_once text a b h k
  steps_once text a b (inl h) (inr k) = absurd (alone_or_two text a b h k)
  steps_once text a b (inr h) (inl k) = absurd (alone_or_two text b a k h)
  steps_once text a b (inr h) (inr k) = parted_once IsActor _ once actors_lack actor_once (λ actor. means_once (IsNumber 1 1000000) (line.Steps actor) (number_once 1 1000000 (omega arith))) text a b h k

  pub behind_once : (w : Word) → IsSingle (SaysBehind w)
  behind_once (word.Setting w) = means_once (SaysSetting w) line.Setting (setting_once w)
  behind_once word.Conn = means_once (IsNumber 0 3) (λ (actor : ℕ). line.Happens (event.Conn actor)) (number_once 0 3 (omega arith))
  behind_once word.Bytes = piece_once IsHex hex_once
  behind_once word.Text = piece_once IsText text_once
  behind_once word.Fill = piece_once IsFilled (filled_once once)
  behind_once word.End = means_once IsName (λ (conn : ℕ). line.Happens (event.End conn)) name_once
  behind_once word.Room = parted_once IsName _ once names_lack name_once (λ conn. means_once (IsNumberOr (codes "all") 2147483647) (λ (room : Option ℕ). line.Happens (event.Room conn room)) room_once)
  behind_once word.FailRead = means_once IsName (λ (conn : ℕ). line.Happens (event.FailRead conn)) name_once
  behind_once word.FailWrite = means_once IsName (λ (conn : ℕ). line.Happens (event.FailWrite conn)) name_once
  behind_once word.Dgram = parted_once IsName _ once names_lack name_once (λ tunnel. means_once IsPayload (λ (payload : List ℕ). line.Happens (event.Datagram tunnel payload)) (λ text a b h k. hex_once text a b h.0 k.0))
  behind_once word.FailPort = means_once IsName (λ (tunnel : ℕ). line.Happens (event.FailPort tunnel)) name_once
  behind_once word.Packet = parted_once (IsNumber 1 1024) _ once (number_lacks 1 1024 (omega arith)) (number_once 1 1024 (omega arith)) (λ count. means_once IsPacket (λ (packet : List ℕ). line.Happens (event.Packet count packet)) (λ text a b h k. hex_once text a b h.0 k.0))
  behind_once word.Step = steps_once
  behind_once word.Run = means_once (IsNumber 1 1000000) line.Run (number_once 1 1000000 (omega arith))

  pub words_once : IsSingle (Parted IsWord SaysBehind)
  words_once = parted_once IsWord SaysBehind once words_lack word_once behind_once

-- a line that begins with a word is no blank one
pub blank_first : (text : List ℕ) → IsBlank text → (get_or text 0 35 == 35) ≡ true
blank_first [] h = refl
blank_first (b ∷ text) h = ap (λ (x : ℕ). x == 35) h

pub not_blank : (text : List ℕ) (said : Line) → Parted IsWord SaysBehind text said → IsBlank text → ⊥
not_blank text said h blank =
    let is : text ≡ word_text h.first ++ 32 ∷ h.rest = h.is ∙ ap (λ (xs : List ℕ). xs ++ 32 ∷ h.rest) h.says in
    let other : (get_or text 0 35 == 35) ≡ false = ap (λ (xs : List ℕ). get_or xs 0 35 == 35) is ∙ word_first h.first h.rest in
    let same = blank_first text blank in
    cc

-- a line of one word is neither
alone_lacks : (text : List ℕ) (said : Event) → IsAlone text said → Lacks 32 text
alone_lacks text said (inl h) = subst (Lacks 32) (sym h.0) (class_lacks is_visible 32 (codes "failbind") refl refl)
alone_lacks text said (inr h) = subst (Lacks 32) (sym h.0) (class_lacks is_visible 32 (codes "failnet") refl refl)

alone_first : (text : List ℕ) (said : Event) → IsAlone text said → (get_or text 0 35 == 35) ≡ false
alone_first text said (inl h) = ap (λ (xs : List ℕ). get_or xs 0 35 == 35) h.0
alone_first text said (inr h) = ap (λ (xs : List ℕ). get_or xs 0 35 == 35) h.0

alone_not_blank : (text : List ℕ) (said : Event) → IsAlone text said → IsBlank text → ⊥
alone_not_blank text said h blank =
    let other = alone_first text said h in
    let same = blank_first text blank in
    cc

-- their fifth letters differ
two_words : (text : List ℕ) → text ≡ codes "failbind" → text ≡ codes "failnet" → ⊥
two_words text h k =
    let bind : (get_or text 4 0 == 98) ≡ true = ap (λ (xs : List ℕ). get_or xs 4 0 == 98) h in
    let net : (get_or text 4 0 == 98) ≡ false = ap (λ (xs : List ℕ). get_or xs 4 0 == 98) k in
    cc

alone_once : IsSingle IsAlone
alone_once text a b (inl h) (inl k) = h.1 ∙ sym k.1
alone_once text a b (inl h) (inr k) = absurd (two_words text h.0 k.0)
alone_once text a b (inr h) (inl k) = absurd (two_words text k.0 h.0)
alone_once text a b (inr h) (inr k) = h.1 ∙ sym k.1

pub says_once : IsCutOnce → HasAddrBytes → HasOneAddr → HasOnePrefix → (text : List ℕ) (a b : Line) → Says text a → Says text b → a ≡ b
says_once once bytes addr prefix text a b (inl h) (inl k) = h.1 ∙ sym k.1
says_once once bytes addr prefix text a b (inl h) (inr (inl k)) = absurd (alone_not_blank text k.value k.says h.0)
says_once once bytes addr prefix text a b (inl h) (inr (inr k)) = absurd (not_blank text b k h.0)
says_once once bytes addr prefix text a b (inr (inl h)) (inl k) = absurd (alone_not_blank text h.value h.says k.0)
says_once once bytes addr prefix text a b (inr (inl h)) (inr (inl k)) = means_once IsAlone line.Happens alone_once text a b h k
says_once once bytes addr prefix text a b (inr (inl h)) (inr (inr k)) = absurd (parted_none IsWord SaysBehind text (alone_lacks text h.value h.says) b k)
says_once once bytes addr prefix text a b (inr (inr h)) (inl k) = absurd (not_blank text a h k.0)
says_once once bytes addr prefix text a b (inr (inr h)) (inr (inl k)) = absurd (parted_none IsWord SaysBehind text (alone_lacks text k.value k.says) a h)
says_once once bytes addr prefix text a b (inr (inr h)) (inr (inr k)) = words_once once bytes addr prefix text a b h k
