-- What is read, or refused, behind other values.
use Rattle.std.proofs.Common.{◌≡◌, ℕ, ◌<◌, ◌++◌, Result, Ok, Err, List, length, refl, ap, ◌∙◌}
use Rattle.std.specs.Prelude.{IfErr, IsErrAnd}
use Rattle.std.specs.Int.{to_be_bytes, w16}
use Rattle.ip_prefix.specs.Sequences.{Begins, SpellsAll}
use Rattle.ip_prefix.specs.Fronts.{BeginsWithNone, HasOneFront, IsSelfDelimiting}
use Rattle.ip_prefix.specs.Fields.{SpellsPair, SpellsAfter, SpellsFront}
use Rattle.ip_prefix.specs.Counted.{SpellsCounted}
use Rattle.octet_forms.proofs.Fields.{none_behind}
use Rattle.octet_forms.proofs.Counts as counts
use Rattle.bgp_wire.specs.declared.WireFault.{WireFault}
use Rattle.bgp_wire.specs.declared.WireFault.TheVariants.{Malformed, Memory}
use Rattle.bgp_wire.specs.Readers.{ParsesOrFails, Refuses, MayRefuseFront}
use Rattle.bgp_paths.proofs.Refusing.{refused_always}
use Rattle.mrt_wire.specs.Fields.{SpellsShort}

-- what is refused behind the first is refused of both
pub refused_behind : {A B : Type 0} (First : A → List ℕ → Type 0) (Second : A → B → List ℕ → Type 0) → HasOneFront First → (a : A) (more octets : List ℕ) (fault : WireFault) → Begins First a more octets
    → Refuses (Second a) more fault → Refuses (SpellsPair First Second) octets fault
refused_behind First Second one a more octets Malformed p none = none_behind First Second one a more octets p none
refused_behind First Second one a more octets Memory p none = tt

-- and so where the first isn't kept
pub refused_unkept : {A B : Type 0} (First : A → List ℕ → Type 0) (Second : A → B → List ℕ → Type 0) → HasOneFront First → (a : A) (more octets : List ℕ) (fault : WireFault) → Begins First a more octets
    → Refuses (Second a) more fault → Refuses (SpellsAfter First Second) octets fault
refused_unkept First Second one a more octets Malformed p none = λ b s. none_behind First Second one a more octets p none (s.0, b) s.1
refused_unkept First Second one a more octets Memory p none = tt

-- what is read behind a value that isn't kept
pub reads_behind : {A B : Type 0} (First : A → List ℕ → Type 0) (Second : A → B → List ℕ → Type 0) → HasOneFront First → (a : A) (more octets : List ℕ) (answer : Result B WireFault) → Begins First a more octets
    → ParsesOrFails (Second a) more answer → ParsesOrFails (SpellsAfter First Second) octets answer
reads_behind First Second one a more octets (Ok b) p h = (a, record { rest = more; first = p; second = h })
reads_behind First Second one a more octets (Err fault) p none = refused_unkept First Second one a more octets fault p none

-- an answer that is refused by one measure is refused by another that follows
pub refused_so : {A : Type 0} (answer : Result A WireFault) (P Q : WireFault → Type 0) → ((fault : WireFault) → P fault → Q fault) → IfErr answer P → IfErr answer Q
refused_so (Ok value) P Q follows p = p
refused_so (Err fault) P Q follows p = follows fault p

-- what no value is spelled by is refused, by any fault
pub refused_none : {A R : Type 0} (Spells : A → List ℕ → Type 0) (octets : List ℕ) (answer : Result R WireFault) → ((value : A) → Spells value octets → ⊥) → IfErr answer (Refuses Spells octets)
refused_none Spells octets (Ok value) none = tt
refused_none Spells octets (Err fault) none = refused_always Spells octets fault none

pub refused_front : {A : Type 0} (Spells : A → List ℕ → Type 0) (octets : List ℕ) (fault : WireFault) → BeginsWithNone Spells octets → MayRefuseFront Spells octets fault
refused_front Spells octets Malformed none = none
refused_front Spells octets Memory none = tt

pub reads_none : {A : Type 0} (Q : WireFault → Type 0) (Spells : A → List ℕ → Type 0) (octets : List ℕ) (answer : Result A WireFault) → IsErrAnd answer Q → ((value : A) → Spells value octets → ⊥) → ParsesOrFails Spells octets answer
reads_none Q Spells octets (Ok value) e none = absurd e
reads_none Q Spells octets (Err fault) e none = refused_always Spells octets fault none

-- octets that begin with a number are its own and the rest
short_whole : (count : ℕ) (body octets : List ℕ) → Begins SpellsShort count body octets → octets ≡ to_be_bytes w16 count ++ body
short_whole count body octets n = n.whole ∙ ap (λ l. l ++ body) n.spelled.whole

-- the values that are read after a count are counted
pub counted : {A : Type 0} (Spells : A → List ℕ → Type 0) (values : List A) (count : ℕ) (rest body octets : List ℕ) → Begins SpellsShort count body octets → length values ≡ count
    → Begins (SpellsAll Spells) values rest body → Begins (SpellsCounted Spells) values rest octets
counted Spells values count rest body octets n size b =
    counts.counted Spells values count rest body octets n.spelled.fits (short_whole count body octets n) size b

-- none are where none stands in front of the rest before the count is reached
pub not_counted : {A : Type 0} (Spells : A → List ℕ → Type 0) → IsSelfDelimiting Spells → (values : List A) (count : ℕ) (rest body octets : List ℕ) → Begins SpellsShort count body octets
    → length values < count → Begins (SpellsAll Spells) values rest body → BeginsWithNone Spells rest → (others : List A) → SpellsFront (SpellsCounted Spells) others octets → ⊥
not_counted Spells code values count rest body octets n less b none others s =
    counts.not_counted Spells code values count rest body octets n.spelled.fits (short_whole count body octets n) less b none others s.0 s.1

-- nor are there where no count is
pub no_count : {A : Type 0} (Spells : A → List ℕ → Type 0) (octets : List ℕ) → BeginsWithNone SpellsShort octets → (values : List A) → SpellsFront (SpellsCounted Spells) values octets → ⊥
no_count Spells octets none values s =
    let t = counts.counted_begun Spells values s.0 octets s.1 in
    none (length values) t.0 record { front = to_be_bytes w16 (length values); spelled = record { fits = s.1.spelled.fits; whole = refl }; whole = t.1 }

-- where a value is refused before the count is reached, so are the counted values
pub counted_refused : {A : Type 0} (Spells : A → List ℕ → Type 0) → IsSelfDelimiting Spells → (values : List A) (count : ℕ) (rest body octets : List ℕ) (fault : WireFault) → Begins SpellsShort count body octets
    → length values < count → Begins (SpellsAll Spells) values rest body → MayRefuseFront Spells rest fault → Refuses (SpellsFront (SpellsCounted Spells)) octets fault
counted_refused Spells code values count rest body octets Malformed n less b none = not_counted Spells code values count rest body octets n less b none
counted_refused Spells code values count rest body octets Memory n less b none = tt
