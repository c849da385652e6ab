-- The request for a tunnel over HTTP/2 (RFC 9298, section 3.4; RFC 8441, section 4; RFC 9113, section 3.4).
use Rattle.std.specs.Prelude.{ℕ, List, [], ◌∷◌, ◌++◌, codes, true, false}
use Rattle.mq_frame.specs.declared.frame.Frame.TheVariants.{Headers, Settings}
use Rattle.mq_frame.specs.declared.frame.Setting.{Setting}
use Rattle.mq_frame.specs.Writing.{spelling_of}
use Rattle.mq_hpack.specs.declared.field.Field.{Field}
use Rattle.mq_hpack.specs.Writing.{block_text}

-- the only stream of a client
abbrev pub stream : ℕ
stream = 1

-- the settings of a client: no server push (RFC 9113, section 6.5.2)
abbrev pub own_settings : List Setting
own_settings = record { id = 2; value = 0 } ∷ []

-- the preface of a client: a text, and its SETTINGS (RFC 9113, section 3.4)
unfoldable pub preface : List ℕ
preface = codes "PRI * HTTP/2.0\r\n\r\nSM\r\n\r\n" ++ spelling_of (Settings false own_settings)

abbrev pub field : List ℕ → List ℕ → Field
field name value = record { name = name; value = value }

-- extended CONNECT for a tunnel for UDP
unfoldable pub request_fields : List ℕ → List ℕ → List Field
request_fields path host =
    field (codes ":method") (codes "CONNECT") ∷ field (codes ":protocol") (codes "connect-udp") ∷ field (codes ":scheme") (codes "http")
    ∷ field (codes ":path") path ∷ field (codes ":authority") host ∷ field (codes "capsule-protocol") (codes "?1") ∷ []

-- The first header block of a client, which sets the limit of the proxy's table to 0 (RFC 7541, section 4.2).
unfoldable pub request_frame : List ℕ → List ℕ → List ℕ
request_frame path host = spelling_of (Headers stream (block_text true (request_fields path host)) false true)
