-- What the settings of the proxy say (RFC 9113, section 6.5; RFC 8441, section 3).
use Rattle.std.specs.Prelude.{ℕ, ◌==◌, List, [], ◌∷◌, Bool, true, false, if◌then◌else◌}
use Rattle.mq_frame.specs.declared.frame.Setting.{Setting}
use Rattle.mq_streams.specs.History.{History, Shifted}
use Rattle.mq_streams.specs.Answers.{can_shift}

-- SETTINGS_INITIAL_WINDOW_SIZE (RFC 9113, section 6.5.2), and SETTINGS_ENABLE_CONNECT_PROTOCOL (RFC 8441, section 3)
abbrev pub initial_window_size : ℕ
initial_window_size = 4

abbrev pub enable_connect_protocol : ℕ
enable_connect_protocol = 8

-- The settings in their order (section 6.5.3): each initial size shifts the send window, up to the first by which it
-- would pass the largest (section 6.9.2).
abbrev pub shift_of : Setting → History → History × Bool
shift_of p h =
    if p.id == initial_window_size then (if can_shift p.value h then (Shifted p.value ∷ h, true) else (h, false))
    else (h, true)

abbrev pub shifts : List Setting → History → History × Bool
shifts [] h = (h, true)
shifts (p ∷ ps) h = let x = shift_of p h in if x.1 then shifts ps x.0 else x

-- the last value of the setting is 1, or it isn't there and this held before
abbrev pub offers_still : Bool → List Setting → Bool
offers_still before [] = before
offers_still before (p ∷ ps) = offers_still (if p.id == enable_connect_protocol then p.value == 1 else before) ps

-- extended CONNECT is offered
abbrev pub offers_connect : List Setting → Bool
offers_connect pairs = offers_still false pairs
