-- Which requests are malformed (RFC 9113, sections 8.1.1, 8.2, 8.3 and 8.5; RFC 8441, section 4; and, for the two
-- tunnel protocols, RFC 9297, section 3.2).
use Rattle.std.specs.Prelude.{ℕ, Bool, true, false, not, ◌&&◌, ◌||◌, ◌==◌, nat_lt, nat_le, List, [], ◌∷◌, length, codes, bytes_eq, find, count_by, option_map, Option, Some, None, if◌then◌else◌}
use Rattle.std.specs.List.{list_any}
use Rattle.mq_hpack.specs.declared.field.Field.{Field}

-- Names.

unfoldable pub is_text : List ℕ → List ℕ → Bool
is_text text word = bytes_eq text word

abbrev pub is_named : List ℕ → Field → Bool
is_named name f = is_text f.name name

abbrev pub is_one_of : List (List ℕ) → List ℕ → Bool
is_one_of words text = list_any (λ word. is_text text word) words

-- a byte that a token may have (RFC 9110, section 5.6.2), but for the upper-case letters, which a name may not have
-- (RFC 9113, section 8.2.1)
unfoldable pub is_name_byte : ℕ → Bool
is_name_byte b =
    (nat_le 97 b && nat_le b 122) || ((nat_le 48 b && nat_le b 57) || list_any (λ c. c == b) (codes "!#$%&'*+-.^_`|~"))

abbrev pub is_not_name_byte : ℕ → Bool
is_not_name_byte b = not (is_name_byte b)

-- NUL, CR and LF (section 8.2.1)
abbrev pub is_forbidden : ℕ → Bool
is_forbidden b = (b == 0) || ((b == 10) || (b == 13))

abbrev pub begins_with_colon : List ℕ → Bool
begins_with_colon [] = false
begins_with_colon (b ∷ bs) = b == 58

-- a pseudo-field (section 8.3)
abbrev pub is_pseudo : Field → Bool
is_pseudo f = begins_with_colon f.name

-- the pseudo-fields of a request (section 8.3.1, and RFC 8441, section 4)
unfoldable pub is_request_pseudo : List ℕ → Bool
is_request_pseudo name = is_one_of (codes ":method" ∷ codes ":scheme" ∷ codes ":authority" ∷ codes ":path" ∷ codes ":protocol" ∷ []) name

-- the fields of HTTP/1.1 connections (section 8.2.2)
unfoldable pub is_of_connection : List ℕ → Bool
is_of_connection name = is_one_of (codes "connection" ∷ codes "upgrade" ∷ codes "transfer-encoding" ∷ codes "keep-alive" ∷ codes "proxy-connection" ∷ []) name

-- a name that no field of a request may have (sections 8.2 and 8.3)
abbrev pub has_bad_name : Field → Bool
has_bad_name f =
    if is_pseudo f then not (is_request_pseudo f.name)
    else ((length f.name == 0) || (list_any is_not_name_byte f.name || is_of_connection f.name))

abbrev pub is_bad : Field → Bool
is_bad f = has_bad_name f || list_any is_forbidden f.value

-- All fields.

abbrev pub is_there : List ℕ → List Field → Bool
is_there name fields = list_any (is_named name) fields

abbrev pub is_repeated : List ℕ → List Field → Bool
is_repeated name fields = nat_lt 1 (count_by (is_named name) fields)

-- a pseudo-field behind another field (section 8.3)
abbrev pub has_late_pseudo : List Field → Bool
has_late_pseudo [] = false
has_late_pseudo (f ∷ fs) = if is_pseudo f then has_late_pseudo fs else list_any is_pseudo fs

-- the value of the first field of this name
abbrev pub value_of : List ℕ → List Field → Option (List ℕ)
value_of name fields = option_map (λ f. f.value) (find (is_named name) fields)

abbrev pub is_value : Option (List ℕ) → List ℕ → Bool
is_value None word = false
is_value (Some value) word = is_text value word

abbrev pub is_some_text : Option (List ℕ) → Bool
is_some_text None = false
is_some_text (Some value) = nat_lt 0 (length value)

-- The pseudo-fields alone, each at most once.

abbrev pub repeats_pseudo : List Field → Bool
repeats_pseudo fields =
    is_repeated (codes ":method") fields || (is_repeated (codes ":scheme") fields || (is_repeated (codes ":authority") fields
    || (is_repeated (codes ":path") fields || is_repeated (codes ":protocol") fields)))

-- the method is CONNECT
abbrev pub is_connect : List Field → Bool
is_connect fields = is_value (value_of (codes ":method") fields) (codes "CONNECT")

-- the protocol is one of the two tunnels'
abbrev pub is_tunnel : List Field → Bool
is_tunnel fields =
    let protocol = value_of (codes ":protocol") fields in
    is_value protocol (codes "connect-udp") || is_value protocol (codes "connect-ip")

-- fields of content, which a tunnel has none of (RFC 9297, section 3.2)
abbrev pub has_content : List Field → Bool
has_content fields = is_there (codes "content-length") fields || is_there (codes "content-type") fields

-- with :protocol, the method is CONNECT, and :scheme, :path and :authority are there (RFC 8441, section 4)
abbrev pub is_bad_extended : List Field → Bool
is_bad_extended fields =
    not (is_connect fields)
    || (not (is_some_text (value_of (codes ":scheme") fields)) || (not (is_some_text (value_of (codes ":path") fields))
    || (not (is_some_text (value_of (codes ":authority") fields)) || (is_tunnel fields && has_content fields))))

-- CONNECT without :protocol has :authority, and neither :scheme nor :path (section 8.5)
abbrev pub is_bad_connect : List Field → Bool
is_bad_connect fields =
    not (is_there (codes ":authority") fields) || (is_there (codes ":scheme") fields || is_there (codes ":path") fields)

-- any other request has :scheme and :path (section 8.3.1)
abbrev pub is_bad_plain : List Field → Bool
is_bad_plain fields = not (is_there (codes ":scheme") fields) || not (is_there (codes ":path") fields)

-- the pseudo-fields don't fit one another
unfoldable pub is_bad_target : List Field → Bool
is_bad_target fields =
    if not (is_there (codes ":method") fields) then true
    else (if is_there (codes ":protocol") fields then is_bad_extended fields
    else (if is_connect fields then is_bad_connect fields
    else is_bad_plain fields))

unfoldable pub is_malformed : List Field → Bool
is_malformed fields = list_any is_bad fields || (has_late_pseudo fields || (repeats_pseudo fields || is_bad_target fields))
