-- What the outputs of a run still hold back, where they tell it: before each read that may wait, and as the run ends.
use Rattle.std.specs.Prelude.{◌≡◌, ℕ, List, [], Option, Some, None, ⊤}
use Rattle.bgpdump_lines.specs.declared.outcome.Outcome.{Outcome}
use Rattle.bgpdump_lines.specs.declared.outcome.Outcome.TheVariants.{Done, Reported, ReadFault}

-- an output holds nothing back: it has no pending octets (written, but not passed on to its device yet), or doesn't
-- show them (`None`)
abbrev pub IsFlushed : Option (List ℕ) → Type 0
IsFlushed None = ⊤
IsFlushed (Some pending) = pending ≡ []

-- neither output of a run holds anything back: `out` and `err` are the octets that each has pending (written, but not
-- passed on to its device yet), `None` where it doesn't show them
abbrev pub AreFlushed : Option (List ℕ) → Option (List ℕ) → Type 0
AreFlushed out err = IsFlushed out × IsFlushed err

-- after a run with this outcome neither output has pending octets (`out` and `err`, as in `AreFlushed`), if it came
-- to its end (`Done`, `Reported`) or a read of its input failed (`ReadFault`); true of any other outcome. Any read
-- that asks the device may fail, and nothing is flushed after a failed read, so all was flushed before each read that
-- waits
abbrev pub LeavesFlushed : Outcome → Option (List ℕ) → Option (List ℕ) → Type 0
LeavesFlushed Done out err = AreFlushed out err
LeavesFlushed Reported out err = AreFlushed out err
LeavesFlushed ReadFault out err = AreFlushed out err
LeavesFlushed other out err = ⊤
