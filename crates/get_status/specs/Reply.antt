-- What bytes are as a reply to GETSTATUS, and what a reply means to a wait: document 01, 'Descriptor and reply' and 'One session'.
use Rattle.std.specs.Prelude.{ℕ, List, [], ◌∷◌, length, ◌==◌, nat_lt, slice_index, Result, Ok, Err}
use Rattle.ground.specs.Pick.{pick}
use Rattle.ground.specs.Said.{Said, says, said_result}
use Rattle.ground.specs.Bytes.{field}
use Rattle.get_status.specs.Names.{state_of, state_byte, status_of, status_byte, settled}
use Rattle.get_status.specs.declared.State.{State}
use Rattle.get_status.specs.declared.GetStatusMessage.{GetStatusMessage}
use Rattle.get_status.specs.declared.Met.{Met}
use Rattle.get_status.specs.declared.Error.{Error}

-- byte 0 status, 1-3 poll milliseconds, 4 state, 5 string index
abbrev pub message_of : List ℕ → GetStatusMessage
message_of bs = record {
  status = status_of (slice_index bs 0);
  poll_timeout = field 1 3 bs;
  state = settled (state_of (slice_index bs 4));
  index = slice_index bs 5;
}

-- fewer than 6 bytes is refused; the rest is ignored
abbrev pub reply_of : List ℕ → Result GetStatusMessage Error
reply_of bs = pick (nat_lt (length bs) 6) (Err (Error.ResponseTooShort (length bs))) (Ok (message_of bs))

-- read strictly, a status other than 0 is refused and carried; the length is tested before it, no state is
abbrev pub strict : Result GetStatusMessage Error → Result GetStatusMessage Error
strict (Ok m) = pick (status_byte m.status == 0) (Ok m) (Err (Error.StatusError m.status))
strict (Err e) = Err e

abbrev pub strict_reply_of : List ℕ → Result GetStatusMessage Error
strict_reply_of bs = strict (reply_of bs)

-- target reached; busy, with the reply's milliseconds; otherwise wrong, the busy state being expected
abbrev pub judged : GetStatusMessage → State → State → Result Met Error
judged m busy target =
    pick (state_byte m.state == state_byte target) (Ok Met.Reached)
    (pick (state_byte m.state == state_byte busy) (Ok (Met.Busy m.poll_timeout)) (Err (Error.InvalidState m.state busy)))

-- document 01's number and values for each answer
abbrev pub said_message : GetStatusMessage → Said
said_message m = says 0 (status_byte m.status ∷ m.poll_timeout ∷ state_byte m.state ∷ m.index ∷ [])

abbrev pub said_look : Met → Said
said_look Met.Reached = says 0 []
said_look (Met.Busy ms) = says 0 (ms ∷ [])

abbrev pub said_error : Error → Said
said_error (Error.ResponseTooShort got) = says 6 (got ∷ 6 ∷ [])
said_error (Error.StatusError status) = says 27 (status_byte status ∷ [])
said_error (Error.InvalidState got expected) = says 2 (state_byte got ∷ state_byte expected ∷ [])

abbrev pub said_of : Result GetStatusMessage Error → Said
said_of = said_result said_message said_error

abbrev pub said_met : Result Met Error → Said
said_met = said_result said_look said_error
