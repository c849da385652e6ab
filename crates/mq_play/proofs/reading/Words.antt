-- The words of lines have no space, and differ.
use Rattle.std.proofs.Common.{◌≡◌, ℕ, ◌==◌, false, List, ◌∷◌, ◌++◌, codes, get_or, refl, sym, ◌∙◌, ap, subst, if◌then◌else◌}
use Rattle.mq_text.specs.Cut.{Lacks}
use Rattle.mq_addr.specs.declared.kind.Kind.{Kind}
use Rattle.mq_addr.specs.declared.kind.Kind.TheVariants as kind
use Rattle.mq_play.specs.declared.word.Word.{Word}
use Rattle.mq_play.specs.declared.word.Word.TheVariants as word
use Rattle.mq_play.specs.declared.word.SettingWord.{SettingWord}
use Rattle.mq_play.specs.declared.word.SettingWord.TheVariants as setting
use Rattle.mq_play.specs.Lines.{IsWord, word_text}
use Rattle.mq_play.specs.Settings.{IsKind, kind_text, setting_word}
use Rattle.mq_play.proofs.reading.Lacking.{class_lacks, is_visible}
use Rattle.mq_play.proofs.reading.Parted.{IsLacking, IsSingle}

setting_lacks : (w : SettingWord) → Lacks 32 (setting_word w)
setting_lacks setting.Workers = class_lacks is_visible 32 (codes "workers") refl refl
setting_lacks setting.Template = class_lacks is_visible 32 (codes "template") refl refl
setting_lacks setting.Name = class_lacks is_visible 32 (codes "name") refl refl
setting_lacks setting.Allow = class_lacks is_visible 32 (codes "allow") refl refl
setting_lacks setting.Deny = class_lacks is_visible 32 (codes "deny") refl refl
setting_lacks setting.Pool = class_lacks is_visible 32 (codes "pool") refl refl
setting_lacks setting.Reach = class_lacks is_visible 32 (codes "reach") refl refl
setting_lacks setting.Route = class_lacks is_visible 32 (codes "route") refl refl
setting_lacks setting.Host = class_lacks is_visible 32 (codes "host") refl refl
setting_lacks setting.Mtu = class_lacks is_visible 32 (codes "mtu") refl refl
setting_lacks setting.History = class_lacks is_visible 32 (codes "history") refl refl

word_lacks : (w : Word) → Lacks 32 (word_text w)
word_lacks (word.Setting w) = setting_lacks w
word_lacks word.Conn = class_lacks is_visible 32 (codes "conn") refl refl
word_lacks word.Bytes = class_lacks is_visible 32 (codes "bytes") refl refl
word_lacks word.Text = class_lacks is_visible 32 (codes "text") refl refl
word_lacks word.Fill = class_lacks is_visible 32 (codes "fill") refl refl
word_lacks word.End = class_lacks is_visible 32 (codes "end") refl refl
word_lacks word.Room = class_lacks is_visible 32 (codes "room") refl refl
word_lacks word.FailRead = class_lacks is_visible 32 (codes "failread") refl refl
word_lacks word.FailWrite = class_lacks is_visible 32 (codes "failwrite") refl refl
word_lacks word.Dgram = class_lacks is_visible 32 (codes "dgram") refl refl
word_lacks word.FailPort = class_lacks is_visible 32 (codes "failport") refl refl
word_lacks word.Packet = class_lacks is_visible 32 (codes "packet") refl refl
word_lacks word.Step = class_lacks is_visible 32 (codes "step") refl refl
word_lacks word.Run = class_lacks is_visible 32 (codes "run") refl refl

pub words_lack : IsLacking IsWord
words_lack text w h = subst (Lacks 32) (sym h) (word_lacks w)

-- which word a text is

abbrev setting_by : ℕ → ℕ → ℕ → SettingWord
setting_by first second third =
    if first == 119 then setting.Workers
    else (if first == 116 then setting.Template
    else (if first == 110 then setting.Name
    else (if first == 97 then setting.Allow
    else (if first == 112 then setting.Pool
    else (if first == 109 then setting.Mtu
    else (if first == 104 then (if second == 111 then setting.Host else setting.History)
    else (if first == 114 then (if third == 97 then setting.Reach else setting.Route) else setting.Deny)))))))

-- the fifth letter of those that begin with `fail`
abbrev fail_by : ℕ → Word
fail_by fifth = if fifth == 114 then word.FailRead else (if fifth == 119 then word.FailWrite else word.FailPort)

abbrev word_by : ℕ → ℕ → ℕ → ℕ → Word
word_by first second third fifth =
    if first == 99 then word.Conn
    else (if first == 98 then word.Bytes
    else (if first == 101 then word.End
    else (if first == 115 then word.Step
    else (if first == 102 then (if second == 105 then word.Fill else fail_by fifth)
    else (if first == 116 then (if third == 120 then word.Text else word.Setting setting.Template)
    else (if first == 100 then (if second == 103 then word.Dgram else word.Setting setting.Deny)
    else (if first == 114 then (if second == 117 then word.Run else (if third == 111 then word.Room else word.Setting (setting_by first second third)))
    else (if first == 112 then (if second == 97 then word.Packet else word.Setting setting.Pool)
    else word.Setting (setting_by first second third)))))))))

abbrev word_of : List ℕ → Word
word_of text = word_by (get_or text 0 0) (get_or text 1 0) (get_or text 2 0) (get_or text 4 0)

word_back : (w : Word) → word_of (word_text w) ≡ w
word_back word.Conn = refl
word_back word.Bytes = refl
word_back word.Text = refl
word_back word.Fill = refl
word_back word.End = refl
word_back word.Room = refl
word_back word.FailRead = refl
word_back word.FailWrite = refl
word_back word.Dgram = refl
word_back word.FailPort = refl
word_back word.Packet = refl
word_back word.Step = refl
word_back word.Run = refl
word_back (word.Setting setting.Workers) = refl
word_back (word.Setting setting.Template) = refl
word_back (word.Setting setting.Name) = refl
word_back (word.Setting setting.Allow) = refl
word_back (word.Setting setting.Deny) = refl
word_back (word.Setting setting.Pool) = refl
word_back (word.Setting setting.Reach) = refl
word_back (word.Setting setting.Route) = refl
word_back (word.Setting setting.Host) = refl
word_back (word.Setting setting.Mtu) = refl
word_back (word.Setting setting.History) = refl

pub word_once : IsSingle IsWord
word_once text a b h k = sym (word_back a) ∙ ap word_of (sym h ∙ k) ∙ word_back b

-- none begins a comment, and none is empty

pub word_first : (w : Word) (rest : List ℕ) → (get_or (word_text w ++ 32 ∷ rest) 0 35 == 35) ≡ false
word_first word.Conn rest = refl
word_first word.Bytes rest = refl
word_first word.Text rest = refl
word_first word.Fill rest = refl
word_first word.End rest = refl
word_first word.Room rest = refl
word_first word.FailRead rest = refl
word_first word.FailWrite rest = refl
word_first word.Dgram rest = refl
word_first word.FailPort rest = refl
word_first word.Packet rest = refl
word_first word.Step rest = refl
word_first word.Run rest = refl
word_first (word.Setting setting.Workers) rest = refl
word_first (word.Setting setting.Template) rest = refl
word_first (word.Setting setting.Name) rest = refl
word_first (word.Setting setting.Allow) rest = refl
word_first (word.Setting setting.Deny) rest = refl
word_first (word.Setting setting.Pool) rest = refl
word_first (word.Setting setting.Reach) rest = refl
word_first (word.Setting setting.Route) rest = refl
word_first (word.Setting setting.Host) rest = refl
word_first (word.Setting setting.Mtu) rest = refl
word_first (word.Setting setting.History) rest = refl

-- kinds

pub kinds_lack : IsLacking IsKind
kinds_lack text kind.Udp h = subst (Lacks 32) (sym h) (class_lacks is_visible 32 (codes "udp") refl refl)
kinds_lack text kind.Ip h = subst (Lacks 32) (sym h) (class_lacks is_visible 32 (codes "ip") refl refl)

abbrev kind_by : ℕ → Kind
kind_by b = if b == 117 then kind.Udp else kind.Ip

kind_back : (k : Kind) → kind_by (get_or (kind_text k) 0 0) ≡ k
kind_back kind.Udp = refl
kind_back kind.Ip = refl

pub kind_once : IsSingle IsKind
kind_once text a b h k = sym (kind_back a) ∙ ap (λ (t : List ℕ). kind_by (get_or t 0 0)) (sym h ∙ k) ∙ kind_back b
