use Rattle.std.proofs.Common.{◌+◌, ◌*◌, ◌≤◌, take}
use Rattle.ip_prefix.specs.Marks.{colon_led_groups}
use Rattle.octet_text.specs.Written.{IsWritten}
use Rattle.ip_prefix.proofs.text.write_groups.Given as goal

-- the groups so far are written, within their room
abbrev pub invariant-loop-group : goal.invariant-loop-group
invariant-loop-group l = record {
  written : IsWritten l.initial.text l.initial.place (colon_led_groups (take l.group-index l.rest)) l.text l.place;
  within : l.place ≤ l.initial.place + l.group-index * 5;
}
