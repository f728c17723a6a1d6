-- What a run that isn't refused was told: later replies of 6 bytes or more with status 0, and whole blocks.
use Rattle.std.specs.Prelude.{◌≤◌, ◌≡◌, List, [], ◌∷◌, length}
use Rattle.get_status.specs.Names.{status_byte}
use Rattle.get_status.specs.Reply.{message_of}
use Rattle.promises.specs.Words.{Command, Wait, Work, Phase, Session, Step, Answer, count, reply, waited, was_reset, failed, told}
use Rattle.promises.specs.Run.{Taken}

abbrev pub Sound : Answer → Type 0
Sound (count n) = Unit
Sound (reply bs) = (6 ≤ length bs) × (status_byte (message_of bs).status ≡ 0)
Sound waited = Unit
Sound was_reset = Unit
Sound failed = Unit

-- where a reply is awaited that isn't the first
abbrev pub SoundAt : Phase → Answer → Type 0
SoundAt Phase.First a = Unit
SoundAt Phase.Clear a = Unit
SoundAt Phase.Second a = Sound a
SoundAt (Phase.Sent c) a = Unit
SoundAt (Phase.Waiting (Wait.Pause b t ms)) a = Unit
SoundAt (Phase.Waiting (Wait.Poll b t)) a = Sound a
SoundAt Phase.Resetting a = Unit
SoundAt (Phase.Finished e) a = Unit
SoundAt (Phase.Refused e) a = Unit

-- where the count of a command is awaited: a block's is its length
abbrev pub Whole : Command → Answer → Type 0
Whole c (count n) = Taken c n
Whole c (reply bs) = Unit
Whole c waited = Unit
Whole c was_reset = Unit
Whole c failed = Unit

abbrev pub WholeAt : Phase → Answer → Type 0
WholeAt Phase.First a = Unit
WholeAt Phase.Clear a = Unit
WholeAt Phase.Second a = Unit
WholeAt (Phase.Sent c) a = Whole c a
WholeAt (Phase.Waiting x) a = Unit
WholeAt Phase.Resetting a = Unit
WholeAt (Phase.Finished e) a = Unit
WholeAt (Phase.Refused e) a = Unit

-- each answer of a run, where it is told
unfoldable pub AllAtBy : (Phase → Answer → Type 0) → (Session → Answer → Step) → Session → List Answer → Type 0
AllAtBy P f s [] = Unit
AllAtBy P f s (a ∷ more) = P s.phase a × AllAtBy P f (f s a).next more

-- no error was told; every block was taken whole
abbrev pub AllSound : Work → Session → List Answer → Type 0
AllSound w s more = AllAtBy SoundAt (told w) s more

abbrev pub AllWhole : Work → Session → List Answer → Type 0
AllWhole w s more = AllAtBy WholeAt (told w) s more
