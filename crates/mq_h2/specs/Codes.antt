-- Error codes (RFC 9113, section 7), and the limits of this server.
use Rattle.std.specs.Prelude.{ℕ, List, [], ◌∷◌}
use Rattle.mq_frame.specs.declared.frame.Setting.{Setting}
use Rattle.mq_hpack.specs.declared.fault.HpackFault.{HpackFault}
use Rattle.mq_hpack.specs.declared.fault.HpackFault.TheVariants.{Index, Integer, Text, Update, TooLarge, NoMemory}

abbrev pub no_error : ℕ
no_error = 0

abbrev pub protocol_error : ℕ
protocol_error = 1

abbrev pub flow_control_error : ℕ
flow_control_error = 3

abbrev pub refused_stream : ℕ
refused_stream = 7

abbrev pub cancel : ℕ
cancel = 8

abbrev pub compression_error : ℕ
compression_error = 9

abbrev pub connect_error : ℕ
connect_error = 10

abbrev pub enhance_your_calm : ℕ
enhance_your_calm = 11

-- the error of the connection that a fault in a header block is (sections 4.3 and 10.5.1)
abbrev pub fault_code : HpackFault → ℕ
fault_code Index = compression_error
fault_code Integer = compression_error
fault_code Text = compression_error
fault_code Update = compression_error
fault_code TooLarge = enhance_your_calm
fault_code NoMemory = compression_error

-- the most bytes that a header block may have
abbrev pub max_block : ℕ
max_block = 16384

-- The settings of this server: SETTINGS_MAX_CONCURRENT_STREAMS, SETTINGS_MAX_HEADER_LIST_SIZE (section 6.5.2), and
-- SETTINGS_ENABLE_CONNECT_PROTOCOL (RFC 8441, section 3).
abbrev pub own_settings : List Setting
own_settings = record { id = 3; value = 100 } ∷ record { id = 6; value = 16384 } ∷ record { id = 8; value = 1 } ∷ []

-- the setting SETTINGS_INITIAL_WINDOW_SIZE (section 6.5.2)
abbrev pub initial_window_setting : ℕ
initial_window_setting = 4
