-- What a version and an interface string announce: document 01, 'The interface string'.
use Rattle.std.specs.Prelude.{ℕ, List, [], ◌∷◌, length, drop, Bool, true, false, ◌==◌, nat_lt, Option, Some, None, Result, Ok, Err, ok_or}
use Rattle.ground.specs.Pick.{pick}
use Rattle.ground.specs.Said.{Said, says, said_result}
use Rattle.ground.specs.Bytes.{prefix}
use Rattle.ground.specs.declared.Version.{Version}
use Rattle.numeral.specs.Number.{number_of}
use Rattle.memory_layout.specs.Layout.{max_text, with_pages, checked, stored_by, said_error}
use Rattle.memory_layout.specs.declared.Error.{Error as Fault}
use Rattle.memory_layout.specs.declared.MemoryLayout.{MemoryLayout}
use Rattle.protocol.specs.declared.DfuProtocol.{DfuProtocol}
use Rattle.protocol.specs.declared.Error.{Error}
use Rattle.protocol.specs.declared.Interface.{Interface}
use Rattle.protocol.specs.declared.UsbWriteControl.{UsbWriteControl}

-- whether a protocol is DfuSe
abbrev pub dfuseb : DfuProtocol → Bool
dfuseb DfuProtocol.Dfu = false
dfuseb (DfuProtocol.Dfuse a) = true

-- a text with no slash, or what stands before and after its last one
pub data Cut : Type 0 where
  whole : Cut
  cut : List ℕ → List ℕ → Cut

abbrev pub grown : ℕ → List ℕ → Cut → Cut
grown c cs whole = pick (c == 47) (cut [] cs) whole
grown c cs (cut rest tail) = cut (c ∷ rest) tail

unfoldable pub rsplit : List ℕ → Cut
rsplit [] = whole
rsplit (c ∷ cs) = grown c cs (rsplit cs)

-- the slash's place
abbrev pub place_of : Cut → Option ℕ
place_of whole = None
place_of (cut rest tail) = Some (length rest)

-- no slash is 8; the two bytes `0x`, then hex digits, or 13
unfoldable pub address_of : Cut → Result ℕ Error
address_of whole = Err Error.InvalidInterfaceString
address_of (cut name text) = pick (prefix (48 ∷ 120 ∷ []) text) (ok_or (number_of 16 (drop 2 text)) Error.InvalidAddress) (Err Error.InvalidAddress)

-- a protocol with so many pages
abbrev pub with_protocol : DfuProtocol → ℕ → Interface
with_protocol p n = record { protocol = p; pages = n }

-- a layout fault comes before a missing second slash (8), and that before a bad address (13)
abbrev pub refused_by : Result MemoryLayout Fault → Error → Result Interface Error
refused_by (Err e) other = Err (Error.MemoryLayout e)
refused_by (Ok layout) other = Err other

abbrev pub answered : Result MemoryLayout Fault → Result ℕ Error → Result Interface Error
answered layout (Err error) = refused_by layout error
answered (Err e) (Ok a) = Err (Error.MemoryLayout e)
answered (Ok layout) (Ok a) = Ok (with_protocol (DfuProtocol.Dfuse a) layout.pages)

-- the answer, and the store after it
pub record Done : Type 0 where
  pub answer : Result Interface Error
  pub store : List ℕ

abbrev pub done : Result Interface Error → List ℕ → Done
done r store = record { answer = r; store = store }

-- pages are stored on acceptance, and nothing on a refusal
abbrev pub leaves : Result Interface Error → List ℕ → List ℕ → Done
leaves (Ok i) layout store = done (Ok i) (stored_by (Ok (with_pages i.pages)) layout store)
leaves (Err e) layout store = done (Err e) store

-- the text after the last slash is the layout; no slash is 8
unfoldable pub dfuse_of : Cut → List ℕ → Done
dfuse_of whole store = done (Err Error.InvalidInterfaceString) store
dfuse_of (cut rest layout) store = leaves (answered (checked (length store) layout) (address_of (rsplit rest))) layout store

-- (1, 0x10) is plain DFU, the string unread; (1, 0x1a) is DfuSe, a string over 1,024 bytes being 20; others are 7
unfoldable pub interface_of : List ℕ → Version → List ℕ → Done
interface_of s version store =
    pick (version.0 == 1)
    (pick (version.1 == 0x10) (done (Ok (with_protocol DfuProtocol.Dfu 0)) store)
    (pick (version.1 == 0x1a)
    (pick (nat_lt max_text (length s)) (done (Err Error.TextTooLong) store) (dfuse_of (rsplit s) store))
    (done (Err Error.UnknownProtocol) store)))
    (done (Err Error.UnknownProtocol) store)

-- type 0x21; detach 0 with value 1,000 and no data
abbrev pub detach_request : UsbWriteControl
detach_request = record { request_type = 0x21; request = 0; value = 1000 }

-- document 01's number and values for each answer
abbrev pub said_protocol : DfuProtocol → ℕ → Said
said_protocol DfuProtocol.Dfu n = says 0 []
said_protocol (DfuProtocol.Dfuse a) n = says 0 (a ∷ n ∷ [])

abbrev pub said_refusal : Error → Said
said_refusal Error.UnknownProtocol = says 7 []
said_refusal Error.TextTooLong = says 20 []
said_refusal Error.InvalidInterfaceString = says 8 []
said_refusal (Error.MemoryLayout e) = said_error e
said_refusal Error.InvalidAddress = says 13 []

abbrev pub said_interface : Interface → Said
said_interface i = said_protocol i.protocol i.pages

abbrev pub said_of : Result Interface Error → Said
said_of = said_result said_interface said_refusal
