-- The numbers of the standard.
use Rattle.std.specs.Prelude.{ℕ}

-- error codes (RFC 9113, section 7)
abbrev pub protocol_error : ℕ
protocol_error = 1

abbrev pub flow_control_error : ℕ
flow_control_error = 3

abbrev pub frame_size_error : ℕ
frame_size_error = 6

-- flags (section 6)
abbrev pub end_stream_flag : ℕ
end_stream_flag = 1

abbrev pub ack_flag : ℕ
ack_flag = 1

abbrev pub end_headers_flag : ℕ
end_headers_flag = 4

abbrev pub padded_flag : ℕ
padded_flag = 8

abbrev pub priority_flag : ℕ
priority_flag = 32

-- the largest contents, where no setting allows more (section 4.2)
abbrev pub max_frame_size : ℕ
max_frame_size = 16384
