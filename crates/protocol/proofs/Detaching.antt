-- The detach request is DFU 1.1's, with a timeout of 1,000 milliseconds and no data. Assumes nothing.
use mathlib.Core.Path.{◌≡◌, refl}
use Rattle.papers.specs.Requests.{SetupPacket, packet, DFU_DETACH}
use Rattle.protocol.specs.declared.UsbWriteControl.{UsbWriteControl}
use Rattle.protocol.specs.Interface.{detach_request}

-- a write without data as a setup packet
abbrev pub dataless : UsbWriteControl → SetupPacket
dataless c = packet c.request_type c.request c.value 0

pub detach_agrees : dataless detach_request ≡ DFU_DETACH 1000
detach_agrees = refl
