use Rattle.mq_script.proofs.line.parse_behind.Goals as goal

pub returns-in-Setting : goal.returns-in-Setting
returns-in-Setting c = let word = c.in-Setting.is in rw word c.parse_setting_line.ensures

pub returns-in-Conn : goal.returns-in-Conn
returns-in-Conn c = let word = c.in-Conn.is in rw word c.parse_conn.ensures

pub returns-in-Bytes : goal.returns-in-Bytes
returns-in-Bytes c = let word = c.in-Bytes.is in rw word c.parse_bytes.ensures

pub returns-in-Text : goal.returns-in-Text
returns-in-Text c = let word = c.in-Text.is in rw word c.parse_said.ensures

pub returns-in-Fill : goal.returns-in-Fill
returns-in-Fill c = let word = c.in-Fill.is in rw word c.parse_fill.ensures

pub returns-in-End : goal.returns-in-End
returns-in-End c = let word = c.in-End.is in rw word c.parse_end.ensures

pub returns-in-Room : goal.returns-in-Room
returns-in-Room c = let word = c.in-Room.is in rw word c.parse_link_room.ensures

pub returns-in-FailRead : goal.returns-in-FailRead
returns-in-FailRead c = let word = c.in-FailRead.is in rw word c.parse_fail_read.ensures

pub returns-in-FailWrite : goal.returns-in-FailWrite
returns-in-FailWrite c = let word = c.in-FailWrite.is in rw word c.parse_fail_write.ensures

pub returns-in-Dgram : goal.returns-in-Dgram
returns-in-Dgram c = let word = c.in-Dgram.is in rw word c.parse_dgram.ensures

pub returns-in-FailPort : goal.returns-in-FailPort
returns-in-FailPort c = let word = c.in-FailPort.is in rw word c.parse_fail_port.ensures

pub returns-in-Packet : goal.returns-in-Packet
returns-in-Packet c = let word = c.in-Packet.is in rw word c.parse_packets.ensures

pub returns-in-Run : goal.returns-in-Run
returns-in-Run c = let word = c.in-Run.is in rw word c.parse_run.ensures
