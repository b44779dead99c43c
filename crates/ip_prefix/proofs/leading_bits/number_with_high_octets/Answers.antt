-- Sixteen octets are the number, and begin with those in front.
use Rattle.std.proofs.Common.{rules, refl, ◌≡◌, ℕ, List, ◌≤◌, ◌-◌, ◌*◌, ◌/◌, ◌^◌, ◌++◌, ◌∙◌, length, replicate, take, drop, ap, arith, length-drop, get_or, sym, ◌∷◌, []}
use Rattle.std.specs.Int.{w128, from_be_bytes}
use Rattle.std.proofs.lemmas.List.{length-append, length-take-le, take-append-le, take-take, take_at}
use Rattle.ip_prefix.specs.Bits.{bits_of}
use Rattle.octet_forms.proofs.Lists.{AllByRecursion-append, AllByRecursion-drop, AllByRecursion-replicate, AllByRecursion-take}
use Rattle.ip_prefix.proofs.Octets.{IsOctet, AllOctets, AllOctets-from}
use Rattle.ip_prefix.proofs.Wires.{bits_in_front}
use Rattle.ip_prefix.proofs.leading_bits.number_with_high_octets.Goals as goal

-- a number of zeros are octets
zeros : (n : ℕ) → AllOctets (replicate n 0)
zeros n = AllByRecursion-replicate IsOctet n 0 (omega arith)

three_items : (l : List ℕ) → length l ≡ 3 → l ≡ get_or l 0 0 ∷ get_or l 1 0 ∷ get_or l 2 0 ∷ []
three_items (a ∷ b ∷ c ∷ []) e = refl
three_items _ e = absurd (omega arith)

pub returns-in-Some-clause-bits : goal.returns-in-Some-clause-bits
returns-in-Some-clause-bits c =
    let octets = c.args.octets.now in
    let size = c.args.size in
    let each = AllOctets-from octets (λ i. omega (arith, c.type_inv.octets i)) in
    let front : c.in-Some.front.now ≡ take 16 octets = search rules in
    let sixteen : length (take 16 octets) ≡ 16 = search rules in
    ap (λ n. bits_of (8 * size) (n / 2 ^ (128 - 8 * size))) (c.from_be_bytes.ensures ∙ ap (from_be_bytes w128) front)
    ∙ bits_in_front size octets (take 16 octets) sixteen (AllByRecursion-take IsOctet 16 octets each) c.requires.1 (take-take size 16 octets c.requires.1)

pub returns-in-Some-first_chunk-clause-bits : goal.returns-in-Some-first_chunk-clause-bits
returns-in-Some-first_chunk-clause-bits c =
    let octets = c.args.octets.now in
    let size = c.args.size in
    let each = AllOctets-from octets (λ i. omega (arith, c.type_inv.octets i)) in
    let front : c.in-Some-first_chunk.front.now ≡ take 3 octets = search rules in
    let short : size ≤ 3 = c.if-size-le-SHORT.true in
    let three : length (take 3 octets) ≡ 3 = search rules in
    let all : List ℕ = take 3 octets ++ replicate 13 0 in
    let long : length all ≡ 16 = omega (arith, length-append (take 3 octets) (replicate 13 0), three) in
    let same = take-append-le size (take 3 octets) (replicate 13 0) (omega arith) ∙ take-take size 3 octets short in
    ap (λ n. bits_of (8 * size) (n / 2 ^ (128 - 8 * size))) (c.from_be_bytes-in-Some-first_chunk.ensures ∙ ap (λ l. from_be_bytes w128 (l ++ replicate 13 0)) (sym (three_items _ (search rules)) ∙ front))
    ∙ bits_in_front size octets all long (AllByRecursion-append IsOctet (take 3 octets) (replicate 13 0) (AllByRecursion-take IsOctet 3 octets each) (zeros 13)) c.requires.1 same

pub returns-clause-bits : goal.returns-clause-bits
returns-clause-bits c =
    let octets = c.args.octets.now in
    let size = c.args.size in
    let each = AllOctets-from octets (λ i. omega (arith, c.type_inv.octets i)) in
    let body : List ℕ = take size octets in
    let rest : List ℕ = drop size (replicate 16 0) in
    let held : length body ≡ size = length-take-le size octets c.requires.0 in
    let all : List ℕ = body ++ rest in
    let long : length all ≡ 16 = omega (arith, length-append body rest, length-drop {A = ℕ} size (replicate 16 0)) in
    ap (λ n. bits_of (8 * size) (n / 2 ^ (128 - 8 * size))) (c.from_be_bytes-2.ensures ∙ ap (λ l. from_be_bytes w128 (l ++ rest)) c.copy_from_slice.ensures.after)
    ∙ bits_in_front size octets all long (AllByRecursion-append IsOctet body rest (AllByRecursion-take IsOctet size octets each) (AllByRecursion-drop IsOctet size (replicate 16 0) (zeros 16))) c.requires.1 (take_at body rest size held)
