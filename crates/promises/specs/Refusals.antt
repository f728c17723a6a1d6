-- Each refusal with its smallest case of docs/COMPARISON.md: what the definitions say of the case, beside the document's number and values.
use Rattle.std.specs.Prelude.{ℕ, false, List, [], ◌∷◌, replicate, length as count, Result, Ok, Err}
use Prim.Native.String.{String}
use Rattle.ground.specs.Said.{Said, says}
use Rattle.std.specs.Prelude.{codes}
use Rattle.functional_descriptor.specs.Descriptor as descriptor
use Rattle.get_status.specs.Reply as replies
use Rattle.memory_layout.specs.Layout as layout
use Rattle.protocol.specs.Interface as protocol
use Rattle.machine.specs.Machine.{asks_at, said_ask}
use Rattle.session.specs.Told.{count as counts}
use Rattle.session.specs.Calls.{call_of}
use Rattle.start.specs.declared.StartError.{StartError}
use Rattle.start.specs.Start.{begin_of, said_start, said_started}
use Rattle.suffix.specs.Suffix as suffix
use Rattle.promises.specs.Words.{DfuProtocol, download, Session, Answer, reply, waited, failed, told}
use Rattle.promises.specs.Samples.{device_of, shows}

-- what a case comes to, and what it has to
pub record Row : Type 0 where
  pub found : Said
  pub wanted : Said

abbrev pub row : ℕ → List ℕ → Said → Row
row number values found = record { found = found; wanted = says number values }

-- a layout text, for a store of 8,192 numbers; an interface string, by its version's second byte
abbrev pub layout_said : String → Said
layout_said t = layout.said_of (layout.checked 8192 (codes t))

abbrev pub string_said : ℕ → List ℕ → Said
string_said minor t = protocol.said_of (protocol.interface_of t (record { 0 = 1; 1 = minor }) (replicate 9 0)).answer

-- start by its numbers: transfer size, length, budget, pages
abbrev pub start_said : DfuProtocol → ℕ → ℕ → ℕ → ℕ → Said
start_said p size len budget pages = said_started (begin_of (device_of false false size) p len pages budget)

-- what the last of these answers is answered
unfoldable pub last_said : List ℕ → Session → List Answer → Said
last_said ps s [] = said_ask (asks_at s.phase)
last_said ps s (a ∷ []) = said_ask (told (download ps) s a).says
last_said ps s (a ∷ b ∷ more) = last_said ps (told (download ps) s a).next (b ∷ more)

abbrev pub started_said : List ℕ → List Answer → Result Session StartError → Said
started_said ps more (Ok s) = last_said ps s more
started_said ps more (Err e) = said_start e

-- a session with transfer size 8, of a device that neither stays nor detaches: its length, budget and pages
abbrev pub session_said : DfuProtocol → ℕ → ℕ → List ℕ → List Answer → Said
session_said p len budget ps more = started_said ps more (begin_of (device_of false false 8) p len (count ps) budget)

-- a call that lends four command bytes
abbrev pub short_lent : Result Session StartError → Said
short_lent (Ok s) = said_ask (call_of (7 ∷ []) [] (0 ∷ 0 ∷ 0 ∷ 0 ∷ []) s (shows 2)).step.says
short_lent (Err e) = said_start e

-- a reply with a status; a write that is taken and waited for
abbrev pub showing : ℕ → ℕ → Answer
showing status state = reply (status ∷ 0 ∷ 0 ∷ 0 ∷ state ∷ 0 ∷ [])

abbrev pub write : ℕ → List Answer → List Answer
write n more = counts n ∷ waited ∷ shows 5 ∷ more

abbrev pub idle : List Answer → List Answer
idle more = shows 2 ∷ shows 2 ∷ more

-- a suffix by the last five bytes of its sixteen before the CRC's four are told: signature's end and length, and the CRC
abbrev pub suffix_said : ℕ → ℕ → List ℕ → Said
suffix_said third len crc =
    suffix.said_of (suffix.suffix_of (0x00 ∷ 0x01 ∷ 0x11 ∷ 0xdf ∷ 0x83 ∷ 0x04 ∷ 0x00 ∷ 0x01 ∷ 0x55 ∷ 0x46 ∷ third ∷ len ∷ crc))

abbrev pub rows : List Row
rows =
    row 1 [] (start_said DfuProtocol.Dfu 8 4294967296 9 0)
    ∷ row 2 (4 ∷ 2 ∷ []) (session_said DfuProtocol.Dfu 1 9 [] (shows 2 ∷ shows 3 ∷ []))
    ∷ row 4 [] (session_said (DfuProtocol.Dfuse 4294963200) 4095 9 (4096 ∷ []) (idle []))
    ∷ row 5 [] (start_said (DfuProtocol.Dfuse 4294967295) 8 1 9 1)
    ∷ row 5 [] (session_said (DfuProtocol.Dfuse 0) 2049 99 (1024 ∷ 1024 ∷ []) (idle (write 5 (write 5 []))))
    ∷ row 6 (5 ∷ 6 ∷ []) (replies.said_of (replies.reply_of (0 ∷ 0 ∷ 0 ∷ 0 ∷ 2 ∷ [])))
    ∷ row 6 (5 ∷ 6 ∷ []) (session_said DfuProtocol.Dfu 1 9 [] (reply (0 ∷ 0 ∷ 0 ∷ 0 ∷ 2 ∷ []) ∷ []))
    ∷ row 7 [] (string_said 27 (codes "/0x0/1*1Kg"))
    ∷ row 8 [] (string_said 26 (codes "1*1Kg"))
    ∷ row 9 (0 ∷ 4 ∷ []) (layout_said "11Kg")
    ∷ row 10 (0 ∷ 0 ∷ []) (layout_said "*1Kg")
    ∷ row 11 (2 ∷ 0 ∷ []) (layout_said "1*Kg")
    ∷ row 12 (3 ∷ 1 ∷ []) (layout_said "1*1kg")
    ∷ row 13 [] (string_said 26 (codes "/0x/1*1Kg"))
    ∷ row 14 (8 ∷ []) (descriptor.said_of (descriptor.descriptor_of (0x09 ∷ 0x21 ∷ 0x01 ∷ 0 ∷ 0 ∷ 8 ∷ 0 ∷ 0x10 ∷ [])))
    ∷ row 20 [] (string_said 26 (replicate 1025 47))
    ∷ row 21 [] (layout_said "1*4096Mg")
    ∷ row 22 [] (layout_said "4097*1Kg")
    ∷ row 22 [] (start_said (DfuProtocol.Dfuse 0) 8 1 9 4097)
    ∷ row 23 [] (start_said DfuProtocol.Dfu 8 1 0 0)
    ∷ row 23 [] (session_said DfuProtocol.Dfu 1 2 [] (idle []))
    ∷ row 24 [] (session_said DfuProtocol.Dfu 1 9 [] (waited ∷ []))
    ∷ row 25 [] (short_lent (begin_of (device_of false false 8) DfuProtocol.Dfu 1 0 9))
    ∷ row 26 [] (session_said DfuProtocol.Dfu 1 9 [] (failed ∷ []))
    ∷ row 27 (3 ∷ []) (replies.said_of (replies.strict_reply_of (3 ∷ 0 ∷ 0 ∷ 0 ∷ 5 ∷ 0 ∷ [])))
    ∷ row 27 (3 ∷ []) (session_said DfuProtocol.Dfu 1 9 [] (showing 3 2 ∷ showing 3 2 ∷ []))
    ∷ row 28 (7 ∷ 8 ∷ []) (session_said DfuProtocol.Dfu 10 9 [] (idle (counts 7 ∷ [])))
    ∷ row 28 (8 ∷ 2 ∷ []) (session_said DfuProtocol.Dfu 10 9 [] (idle (write 8 (counts 8 ∷ []))))
    ∷ row 29 [] (start_said (DfuProtocol.Dfuse 0) 8 524265 9 1)
    ∷ row 40 [] (suffix.said_of (suffix.suffix_of (0x01 ∷ 0x11 ∷ 0xdf ∷ 0x83 ∷ 0x04 ∷ 0x00 ∷ 0x01 ∷ 0x55 ∷ 0x46 ∷ 0x44 ∷ 0x10 ∷ 0x73 ∷ 0x99 ∷ 0x8b ∷ 0x53 ∷ [])))
    ∷ row 41 [] (suffix_said 0x64 0x10 (0xd1 ∷ 0xbd ∷ 0x0f ∷ 0xc6 ∷ []))
    ∷ row 42 [] (suffix_said 0x44 0x11 (0xe5 ∷ 0xa9 ∷ 0x8c ∷ 0x24 ∷ []))
    ∷ row 43 [] (suffix_said 0x44 0x10 (0x73 ∷ 0x99 ∷ 0x8b ∷ 0x52 ∷ []))
    ∷ []

abbrev pub found_in : Row → Said
found_in r = r.found

abbrev pub wanted_in : Row → Said
wanted_in r = r.wanted
