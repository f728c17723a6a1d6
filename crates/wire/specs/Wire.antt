-- A request on the wire: document 01, 'One session, step by step', its paragraph on requests.
use Rattle.std.specs.Prelude.{ℕ, ◌+◌, List, [], ◌∷◌, ◌++◌, length, take, drop, nat_lt, nat_le}
use Rattle.ground.specs.Pick.{pick}
use Rattle.ground.specs.Bytes.{bytes_low}
use Rattle.wire.specs.declared.Request.{Request}
use Rattle.wire.specs.declared.Control.{Control}
use Rattle.wire.specs.declared.Command.{Command}

abbrev pub control : ℕ → ℕ → ℕ → ℕ → ℕ → Control
control type req val takes carries = record { request_type = type; request = req; value = val; takes = takes; carries = carries }

-- type 0x21, and 0xA1 for GETSTATUS, which takes its data from the device; download 1, GETSTATUS 3 (value 0, 6 bytes asked),
-- CLRSTATUS 4 (value 0, no data); a DfuSe command has value 0 and five bytes
abbrev pub wire_of : Request → Control
wire_of Request.GetStatus = control 0xA1 3 0 6 0
wire_of Request.ClearStatus = control 0x21 4 0 0 0
wire_of (Request.Command (Command.Erase a)) = control 0x21 1 0 0 5
wire_of (Request.Command (Command.SetAddress a)) = control 0x21 1 0 0 5
wire_of (Request.Command (Command.Block n f m)) = control 0x21 1 n 0 m
wire_of (Request.Command (Command.Empty n)) = control 0x21 1 n 0 0

-- erase is byte 0x41 and address byte 0x21, each before a little-endian position; they fill the first five command bytes, and later ones stay
abbrev pub filled_for : Request → List ℕ → List ℕ
filled_for Request.GetStatus cmd = cmd
filled_for Request.ClearStatus cmd = cmd
filled_for (Request.Command (Command.Erase a)) cmd = 0x41 ∷ (bytes_low 4 a ++ drop 5 cmd)
filled_for (Request.Command (Command.SetAddress a)) cmd = 0x21 ∷ (bytes_low 4 a ++ drop 5 cmd)
filled_for (Request.Command (Command.Block n f m)) cmd = cmd
filled_for (Request.Command (Command.Empty n)) cmd = cmd

-- fewer than five are left alone
abbrev pub filled_in : Request → List ℕ → List ℕ
filled_in q cmd = pick (nat_lt (length cmd) 5) cmd (filled_for q cmd)

-- the data of a request: a part of the firmware, or the first five command bytes
abbrev pub request_data : Request → List ℕ → List ℕ → List ℕ
request_data Request.GetStatus fw cmd = []
request_data Request.ClearStatus fw cmd = []
request_data (Request.Command (Command.Erase a)) fw cmd = take 5 cmd
request_data (Request.Command (Command.SetAddress a)) fw cmd = take 5 cmd
request_data (Request.Command (Command.Block n f m)) fw cmd = pick (nat_le (f + m) (length fw)) (take m (drop f fw)) []
request_data (Request.Command (Command.Empty n)) fw cmd = []
