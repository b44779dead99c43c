-- What an input has in its buffer, and what reads take from there.
use Rattle.std.specs.Prelude.{◌≡◌, ℕ, ◌<◌, ◌≤◌, List, ◌++◌, length, Result, Ok}
use Rattle.mrt_frames.specs.Record.{FitsHeader, header_octets}

-- buffered octets hold a whole record: a header, and at least as many octets after it as it states (RFC 6396, section
-- 2)
pub record HoldsRecord (buffered : List ℕ) : Type 0 where
  pub seconds : ℕ
  pub kind : ℕ
  pub subtype : ℕ
  pub size : ℕ
  pub after : List ℕ
  pub fits : FitsHeader seconds kind subtype size
  pub whole : buffered ≡ header_octets seconds kind subtype size ++ after
  pub enough : size ≤ length after

-- a read into a slice, whose octets then are `buffer`, from an input that had `old` buffered before and has `new`
-- then: if the slice isn't empty, and `old` has at least as many octets, the read returns the length of the slice and
-- takes its octets off the front of `old`, so that `new` is left
abbrev pub ReadsBuffered : {E : Type 0} → List ℕ → List ℕ → Result ℕ E → List ℕ → Type 0
ReadsBuffered old new result buffer =
    0 < length buffer → length buffer ≤ length old → (result ≡ Ok (length buffer)) × (old ≡ buffer ++ new)
