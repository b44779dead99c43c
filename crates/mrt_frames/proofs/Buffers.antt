-- What is filled of a buffer, in several reads.
use Rattle.std.proofs.Common.{◌≡◌, ℕ, ◌+◌, ◌-◌, ◌≤◌, Bool, true, false, if◌then◌else◌, List, ◌++◌, Option, None, Some, Err, length, take, drop, sym, ap, ◌∙◌, subst, arith, length-take-le, length-append, length-take, take-take}
use Rattle.std.specs.Io.BufRead.{DropsConsumable}
use Rattle.std.specs.Io.KnownBytes.{Consumes, prepend_known}
use Rattle.std.proofs.KnownBytes.{Consumes-trans}
use Rattle.std.proofs.lemmas.List.{take-append-drop}
use Rattle.std.proofs.Math.Seq.{take-append-add}
use borrow.Rule.Slice.PartMut.{put_mid, post_of}
use lib.Seq.{take-add, take-append-le}
use Rattle.mrt_frames.specs.declared.fault.SourceFault.{SourceFault}
use Rattle.mrt_frames.specs.Taken.{Takes, FillsWithinLimit}

-- the front that was filled, and then the front of what was written behind it
pub take-put_mid : (at room n : ℕ) (buffer part : List ℕ) → at ≤ length buffer → n ≤ length part → take (at + n) (put_mid at room buffer part) ≡ take at buffer ++ take n part
take-put_mid at room n buffer part within fits =
    let after : List ℕ = post_of at room buffer in
    ap (λ k. take (k + n) (take at buffer ++ (part ++ after))) (sym (length-take-le at buffer within))
    ∙ take-append-add (take at buffer) (part ++ after) n
    ∙ ap (λ l. take at buffer ++ l) (take-append-le n part after fits)

-- octets taken one behind the other
pub Takes-trans : (a b c : Option (List ℕ)) (k l m : ℕ) (front more : List ℕ) → Takes a b k l front → Takes b c l m more → Takes a c k m (front ++ more)
Takes-trans a b c k l m front more p q = (Consumes-trans a b c front more p.0 q.0, omega (arith, p.1, q.1, length-append front more))

-- a front was filled, and n octets behind it were read
pub Takes-filled : (a b c : Option (List ℕ)) (k l at room n : ℕ) (buffer part : List ℕ) → at ≤ length buffer → n ≤ length part
    → Takes a b k l (take at buffer) → Consumes b c (take n part) → Takes a c k (l + n) (take (at + n) (put_mid at room buffer part))
Takes-filled a b c k l at room n buffer part within fits before now =
    subst (Takes a c k (l + n)) (sym (take-put_mid at room n buffer part within fits))
    (Takes-trans a b c k l (l + n) (take at buffer) (take n part) before (now, omega (arith, length-take-le n part fits)))

-- what was filled before and now
pub Takes-parts : (a b c : Option (List ℕ)) (k l m at n : ℕ) (old new : List ℕ) → take at new ≡ take at old → Takes a b k l (take at old) → Takes b c l m (take n (drop at new)) → Takes a c k m (take (at + n) new)
Takes-parts a b c k l m at n old new kept before now =
    subst (Takes a c k m) (ap (λ l. l ++ take n (drop at new)) (sym kept) ∙ sym (take-add at n new)) (Takes-trans a b c k l m (take at old) (take n (drop at new)) before now)

-- a fault behind what was filled before
pub FillsWithinLimit-stopped_place : (a b c : Option (List ℕ)) (k l m : ℕ) (done part whole : List ℕ) (at end size limit : ℕ) (fault : SourceFault) → length done ≡ at → at ≤ end → end ≤ size
    → Takes a b k l done → FillsWithinLimit b c l m part (end - at) limit (Err fault) → FillsWithinLimit a c k m whole size limit (Err fault)
FillsWithinLimit-stopped_place a b c k l m done part whole at end size limit fault len ahead within before (front, short, stops, now) =
    (done ++ front, omega (arith, length-append done front), stops, Takes-trans a b c k l m done front before now)

-- octets of which n were passed over
abbrev pub Skipped : Option (List ℕ) → Option (List ℕ) → ℕ → ℕ → ℕ → Type 0
Skipped old new before after n = (octets : List ℕ) × (length octets ≡ n) × Takes old new before after octets

-- what was passed over before and now
pub Skipped-more : (a b c : Option (List ℕ)) (k l m n count all : ℕ) (buffer : List ℕ) → Skipped a b k l n → count ≤ length buffer → Takes b c l m (take count buffer) → n + count ≡ all → Skipped a c k m all
Skipped-more a b c k l m n count all buffer (done, len, before) fits now sum =
    (done ++ take count buffer, omega (arith, len, sum, length-append done (take count buffer), length-take-le count buffer fits), Takes-trans a b c k l m done (take count buffer) before now)

-- a buffer keeps its front as it is resized
pub take-resized : (at end : ℕ) (old more grown : List ℕ) → at ≤ end → at ≤ length old → grown ≡ take end old ++ more → take at grown ≡ take at old
take-resized at end old more grown ahead within e =
    ap (take at) e ∙ take-append-le at (take end old) more (omega (arith, length-take end old)) ∙ take-take at end old ahead

-- what lies in a reader's buffer is taken in front
pub Consumes-buffered : (empty : Bool) (buffer : List ℕ) (rest new : Option (List ℕ)) (n : ℕ) → n ≤ length buffer
    → DropsConsumable (if empty then None else prepend_known buffer rest) new (Some (length buffer)) n
    → Consumes (if empty then None else prepend_known buffer rest) new (take n buffer)
Consumes-buffered true buffer rest new n fits drops = tt
Consumes-buffered false buffer None new n fits drops = tt
Consumes-buffered false buffer (Some more) new n fits drops =
    rw (drops fits) (sym (ap (λ l. l ++ drop n (buffer ++ more)) (sym (take-append-le n buffer more fits)) ∙ take-append-drop n (buffer ++ more)))
