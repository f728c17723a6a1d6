-- All that happens in a run that finishes, in order: the opening, a round for each download request, and the USB reset where there is one.
use Rattle.std.specs.Prelude.{ℕ, ◌≡◌, Bool, List, [], ◌∷◌, ◌++◌, map, ◌==◌}
use Rattle.plan.specs.Sent.{on_wire, plan_of}
use Rattle.promises.specs.Words.{pick, DfuProtocol, Command, Request, DfuSansIo}
use Rattle.promises.specs.Run.{Event, sends, hears, waits, resets, in_time}

-- GETSTATUS; CLRSTATUS if and only if the reply said 10; GETSTATUS, whose reply says 2. Nothing is waited
abbrev pub opening : ℕ → ℕ → ℕ → List Event
opening st ms last = sends Request.GetStatus ∷ hears st ms ∷ (pick (st == 10) (sends Request.ClearStatus ∷ []) [] ++ (sends Request.GetStatus ∷ hears 2 last ∷ []))

-- the busy state that a wait may meet and the target that ends it: 4 and 5; after the empty block 7, and 2 or 7
abbrev pub busy_after : Command → ℕ
busy_after (Command.Erase a) = 4
busy_after (Command.SetAddress a) = 4
busy_after (Command.Block n f m) = 4
busy_after (Command.Empty n) = 7

abbrev pub target_after : Bool → Command → ℕ
target_after tolerant (Command.Erase a) = 5
target_after tolerant (Command.SetAddress a) = 5
target_after tolerant (Command.Block n f m) = 5
target_after tolerant (Command.Empty n) = pick tolerant 2 7

-- GETSTATUS answered busy, and the reply's own milliseconds waited: once for each of these
unfoldable pub looks : ℕ → List ℕ → List Event
looks busy [] = []
looks busy (ms ∷ more) = sends Request.GetStatus ∷ hears busy ms ∷ waits ms ∷ looks busy more

-- a download request, the milliseconds of each busy reply of its wait, and those of the reply that shows the target, which nobody waits
pub record Round : Type 0 where
  pub command : Command
  pub busy : List ℕ
  pub last : ℕ

-- 0 ms are waited first
abbrev pub round_of : Bool → Round → List Event
round_of tolerant r =
    sends (Request.Command r.command)
    ∷ waits 0
    ∷ (looks (busy_after r.command) r.busy ++ (sends Request.GetStatus ∷ hears (target_after tolerant r.command) r.last ∷ []))

unfoldable pub rounds : Bool → List Round → List Event
rounds tolerant [] = []
rounds tolerant (r ∷ rs) = round_of tolerant r ++ rounds tolerant rs

abbrev pub request_of : Round → Command
request_of r = r.command

-- neither tolerant nor will detach: the USB reset
abbrev pub closing : Bool → Bool → List Event
closing tolerant detach = pick tolerant [] (pick detach [] (resets ∷ []))

-- what a finished run is: the first reply's state, the opening's milliseconds, and a round for each request of the plan
pub record Listed (io : DfuSansIo) (p : DfuProtocol) (fw ps : List ℕ) (past : List Event) : Type 0 where
  pub shown : ℕ
  pub first : ℕ
  pub second : ℕ
  pub all : List Round
  pub events : in_time past
      ≡ opening shown first second
      ++ (rounds io.descriptor.manifestation_tolerant all ++ closing io.descriptor.manifestation_tolerant io.descriptor.will_detach)
  pub requests : map (on_wire fw) (map request_of all) ≡ plan_of io p fw ps
