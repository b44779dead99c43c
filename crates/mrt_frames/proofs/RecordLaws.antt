-- Laws of records: none begins another, so octets split into records in one way.
use Rattle.std.proofs.Common.{◌≡◌, ℕ, ◌<◌, List, ◌++◌, length, take, drop, ap, arith, length-append}
use Rattle.mrt_frames.specs.declared.header.TheConstants.{LONGEST_BODY}
use Rattle.mrt_frames.specs.Record.{Record, FitsHeader, header_octets, spelling, IsRecord, BeginsWithNoRecord}
use Rattle.octet_forms.proofs.Lists.{append_parts}
use Rattle.octet_forms.proofs.Numbers.{same_w16, same_w32}

-- two headers are equal, and so is what follows them
pub record SameHeader (s k t n s' k' t' n' : ℕ) (x y : List ℕ) : Type 0 where
  pub seconds : s ≡ s'
  pub kind : k ≡ k'
  pub subtype : t ≡ t'
  pub size : n ≡ n'
  pub rest : x ≡ y

pub same_header : (s k t n s' k' t' n' : ℕ) (x y : List ℕ) → FitsHeader s k t n → FitsHeader s' k' t' n'
    → header_octets s k t n ++ x ≡ header_octets s' k' t' n' ++ y → SameHeader s k t n s' k' t' n' x y
same_header s k t n s' k' t' n' x y p q e = record {
  seconds = same_w32 s s' p.seconds_fit q.seconds_fit (ap (take 4) e);
  kind = same_w16 k k' p.kind_fits q.kind_fits (ap (λ l. take 2 (drop 4 l)) e);
  subtype = same_w16 t t' p.subtype_fits q.subtype_fits (ap (λ l. take 2 (drop 6 l)) e);
  size = same_w32 n n' p.size_fits q.size_fits (ap (λ l. take 4 (drop 8 l)) e);
  rest = ap (drop 12) e;
}

-- what stands behind a header whose record stands in front
pub SameHeader-record : (s k t n : ℕ) (octets : List ℕ) → FitsHeader s k t n → (r : Record) (more : List ℕ) → IsRecord r
    → header_octets s k t n ++ octets ≡ spelling r ++ more → SameHeader s k t n r.seconds r.kind r.subtype (length r.body) octets (r.body ++ more)
SameHeader-record s k t n octets p r more q e =
    same_header s k t n r.seconds r.kind r.subtype (length r.body) octets (r.body ++ more) p q.header e

-- no record stands in front of fewer octets than a header has
pub BeginsWithNoRecord-short : (octets : List ℕ) → length octets < 12 → BeginsWithNoRecord octets
BeginsWithNoRecord-short octets short r more q e =
    absurd (omega (arith, ap length e, length-append (spelling r) more, length-append (header_octets r.seconds r.kind r.subtype (length r.body)) r.body))

-- nor of a header with fewer octets behind it than it states
pub BeginsWithNoRecord-cut : (s k t n : ℕ) (body : List ℕ) → FitsHeader s k t n → length body < n → BeginsWithNoRecord (header_octets s k t n ++ body)
BeginsWithNoRecord-cut s k t n body p short r more q e =
    let same = SameHeader-record s k t n body p r more q e in
    absurd (omega (arith, same.size, ap length same.rest, length-append r.body more))

-- nor of a header that states too much
pub BeginsWithNoRecord-too_long : (s k t n : ℕ) (octets : List ℕ) → FitsHeader s k t n → LONGEST_BODY < n → BeginsWithNoRecord (header_octets s k t n ++ octets)
BeginsWithNoRecord-too_long s k t n octets p long r more q e =
    let same = SameHeader-record s k t n octets p r more q e in
    absurd (omega (arith, same.size, q.size))

-- no record begins another
pub same_front : (a b : Record) (x y : List ℕ) → IsRecord a → IsRecord b → spelling a ++ x ≡ spelling b ++ y → (a ≡ b) × (x ≡ y)
same_front a b x y p q e =
    let same = same_header a.seconds a.kind a.subtype (length a.body) b.seconds b.kind b.subtype (length b.body) (a.body ++ x) (b.body ++ y) p.header q.header e in
    let parts = append_parts a.body b.body x y same.size same.rest in
    (λ i. record { seconds = same.seconds i; kind = same.kind i; subtype = same.subtype i; body = parts.0 i }, parts.1)
