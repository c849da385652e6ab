-- How pieces and payloads are read.
use Rattle.std.proofs.Common.{◌≡◌, ◌↔◌, ◌≢◌, ℕ, ◌<◌, List, [], ◌∷◌, length, refl, sym, ◌∙◌, ap, subst, Result, Ok, Err, ◌⊎◌, arith}
use Rattle.std.specs.List.{flat_map}
use Rattle.hex.specs.Hex.{encode_lower, encode_with, decode_of}
use Rattle.hex.specs.declared.error.FromHexError.{FromHexError}
use Rattle.hex.specs.declared.error.FromHexError.TheVariants.{OutOfMemory}
use Rattle.std.proofs.lemmas.List.Elements.{All-cons, All-nil}
use Rattle.mq_play.specs.Parts.{IsByte, IsHex, IsSayable, IsText, said_byte}
use Rattle.mq_play.specs.Lines.{IsHexUpTo}
use Rattle.mq_play.proofs.reading.Hexes.{IsHexOf, hex_refused, one_hex}
use Rattle.mq_play.proofs.reading.Texts.{IsTextOf, one_text}
use Rattle.mq_script.specs.Reading.{IsParsed}
use Rattle.mq_script.specs.declared.fault.LineFault.{LineFault}
use Rattle.mq_script.specs.declared.fault.LineFault.TheVariants.{Syntax, NoMemory}

-- ---- answers

-- the same values are there
pub parsed_same : {T : Type 0} (P Q : T → Type 0) (r : Result T LineFault) → ((value : T) → P value → Q value) → ((value : T) → Q value → P value) → IsParsed P r → IsParsed Q r
parsed_same P Q (Ok value) up down h = up value h
parsed_same P Q (Err Syntax) up down h = λ value q. h value (down value q)
parsed_same P Q (Err NoMemory) up down h = tt

-- where the one has nothing, the other hasn't
pub parsed_fault : {T U : Type 0} (P : T → Type 0) (Q : U → Type 0) (e : LineFault) → ((value : U) → Q value → (other : T) × P other) → IsParsed {T = T} P (Err e) → IsParsed {T = U} Q (Err e)
parsed_fault P Q Syntax down h = λ value q. let p = down value q in h p.0 p.1
parsed_fault P Q NoMemory down h = tt

-- ---- texts

pub not_text : (text : List ℕ) → ((value : List ℕ) → IsTextOf text value → ⊥) → (value : List ℕ) → IsText text value → ⊥
not_text text none value h = none value (h.are, h.is)

pub empty_text : (text : List ℕ) → text ≡ [] → (value : List ℕ) → IsText text value → ⊥
empty_text text empty value h = h.some (one_text text value [] (h.are, h.is) (All-nil IsSayable, empty))

pub some_text : (text bytes : List ℕ) → text ≢ [] → IsTextOf text bytes → IsText text bytes
some_text text bytes some h = record { some = λ e. some (h.1 ∙ ap (λ (xs : List ℕ). flat_map said_byte xs) e); are = h.0; is = h.1 }

-- ---- hex

nothing : encode_lower [] ≡ []
unfolding encode_with
nothing = refl

pub hex_is : (text bytes : List ℕ) → text ≢ [] → IsHexOf text bytes → IsHex text bytes
hex_is text bytes some h = record { some = λ e. some (h.1 ∙ ap encode_lower e ∙ nothing); are = h.0; is = h.1 }

pub empty_hex : (text : List ℕ) → text ≡ [] → (value : List ℕ) → IsHex text value → ⊥
empty_hex text empty value h = h.some (one_hex text value [] (h.are, h.is) (All-nil (λ b. b < 256), empty ∙ sym nothing))

-- why a text isn't read
pub hex_fault : (text : List ℕ) (e : FromHexError) (fault : LineFault) → (fault ≡ NoMemory) ↔ (e ≡ OutOfMemory) → (e ≡ OutOfMemory) ⊎ (decode_of text ≡ Err e) → IsParsed {T = List ℕ} (IsHex text) (Err fault)
hex_fault text e Syntax gives told = λ value h. hex_refused text e (λ none. (let no : Syntax ≡ NoMemory = gives.1 none in cc)) told value (h.are, h.is)
hex_fault text e NoMemory gives told = tt

-- one byte in hex
pub byte_read : (text bytes : List ℕ) (byte : ℕ) → bytes ≡ byte ∷ [] → IsHex text bytes → IsByte text byte
byte_read text bytes byte is hex =
    let Q : List ℕ → Type 0 = λ xs. IsHex text xs in
    let one = subst Q is hex in
    record { small = one.are 0 0 (omega arith); is = one.is }

byte_hex : (text : List ℕ) (byte : ℕ) → IsByte text byte → IsHex text (byte ∷ [])
byte_hex text byte b = let P : ℕ → Type 0 = λ x. x < 256 in record { some = λ e. cc e; are = All-cons P byte [] b.small (All-nil P); is = b.is }

-- none, or more than one
pub no_byte : (text bytes : List ℕ) → IsHex text bytes → ((byte : ℕ) → bytes ≡ byte ∷ [] → ⊥) → (byte : ℕ) → IsByte text byte → ⊥
no_byte text bytes hex none byte b = none byte (one_hex text bytes (byte ∷ []) (hex.are, hex.is) (let h = byte_hex text byte b in (h.are, h.is)))

pub byte_fault : (text : List ℕ) (fault : LineFault) → IsParsed {T = List ℕ} (IsHex text) (Err fault) → IsParsed {T = ℕ} (IsByte text) (Err fault)
byte_fault text fault h = parsed_fault (IsHex text) (IsByte text) fault (λ byte b. (byte ∷ [], byte_hex text byte b)) h

pub up_to_fault : (most : ℕ) (text : List ℕ) (fault : LineFault) → IsParsed {T = List ℕ} (IsHex text) (Err fault) → IsParsed {T = List ℕ} (IsHexUpTo most text) (Err fault)
up_to_fault most text fault h = parsed_fault (IsHex text) (IsHexUpTo most text) fault (λ bytes p. (bytes, p.0)) h

-- a longer one
pub too_long : (most : ℕ) (text bytes : List ℕ) → IsHex text bytes → most < length bytes → (value : List ℕ) → IsHexUpTo most text value → ⊥
too_long most text bytes hex long value p =
    let same : bytes ≡ value = one_hex text bytes value (hex.are, hex.is) (p.0.are, p.0.is) in
    let lengths : length bytes ≡ length value = ap length same in
    let short = p.1 in
    absurd (omega (arith, long, lengths, short))
