-- No words spell two commands, which spell none, and what the lines of a script ask for is one thing.
use Rattle.std.proofs.Common.{◌≡◌, ℕ, ◌+◌, ◌*◌, ◌≤◌, ◌<◌, inl, inr, Option, List, [], ◌∷◌, length, refl, sym, ap, subst, ◌∙◌, arith, rules, ◌++◌, ap₂}
use Rattle.std.proofs.lemmas.Fmt.{decimal_injective}
use Rattle.std.specs.Prelude.{codes}
use Rattle.ip_prefix.specs.Text.{SpellsAddress, SpellsPrefix}
use Rattle.ip_prefix.proofs.Spelled.{one_address, one_prefix}
use Rattle.mrt_events.specs.declared.peer.Peer.{Peer}
use Rattle.bgp_wire.specs.Path.{IsNoSpelling}
use Rattle.bgp_wire.specs.Readers.{ParsesTo}
use Rattle.bgpdump_lines.specs.Lines.{space}
use Rattle.bgpdump_tool.specs.declared.command.Command.{Command}
use Rattle.bgpdump_tool.specs.declared.command.Command.TheVariants.{Next, Route}
use Rattle.bgpdump_tool.specs.Script.{Arguments, NoArguments, Times, Number, OfPeer, SoughtPrefix, SoughtAddress, name_and_arguments, split_at_marks, SpellsArguments, SpellsCommand, SpellsDecimal, SpellsPeer, SpellsSought, SpellsWords, Line, Empty, HasCommand, NoCommand, IsLine, AreLines}

-- ---- what stands behind a name

-- at most three words
few_words : (a : Arguments) (ws : List (List ℕ)) → SpellsArguments a ws → length ws ≤ 3
few_words NoArguments ws h = omega (arith, ap length h)
few_words (Times n) ws (inl once) = omega (arith, ap length once.1)
few_words (Times n) ws (inr times) = omega (arith, ap length times.2)
few_words (Number n) ws h = omega (arith, ap length h.2)
few_words (OfPeer peer) ws h = omega (arith, ap length h.3)
few_words (SoughtPrefix peer prefix) ws h = omega (arith, ap length h.5)
few_words (SoughtAddress peer address) ws h = omega (arith, ap length h.5)

one_decimal : (m n : ℕ) (v w : List ℕ) → v ≡ w → SpellsDecimal m v → SpellsDecimal n w → m ≡ n
one_decimal m n v w e h k = decimal_injective m n (omega (arith, h.0)) (omega (arith, k.0)) (sym h.1 ∙ e ∙ k.1)

one_peer : (p q : Peer) (a b v w : List ℕ) → a ≡ b → v ≡ w → SpellsPeer a p v → SpellsPeer b q w → p ≡ q
one_peer p q a b v w same equal h k =
    let addresses : p.addr ≡ q.addr = one_address p.addr q.addr b (subst (SpellsAddress p.addr) same h.0) k.0 in
    let numbers : p.asn ≡ q.asn = one_decimal p.asn q.asn v w equal h.1 k.1 in
    λ i. record { addr = addresses i; asn = numbers i }

one_sought : {A : Type 0} (Spells : A → List ℕ → Type 0) (p q : Peer) (a b : A) (ws : List (List ℕ))
    → ((x y : A) (text : List ℕ) → Spells x text → Spells y text → x ≡ y) → SpellsSought Spells p a ws → SpellsSought Spells q b ws → (p ≡ q) × (a ≡ b)
one_sought Spells p q a b ws one h k = (
  one_peer p q h.0 k.0 h.1 k.1 (cc (h.5, k.5)) (cc (h.5, k.5)) h.3 k.3,
  one a b k.2 (subst (Spells a) (cc (h.5, k.5)) h.4) k.4,
)

-- which of the shapes it is
abbrev shape : Arguments → ℕ
shape NoArguments = 0
shape (Times n) = 1
shape (Number n) = 2
shape (OfPeer peer) = 3
shape (SoughtPrefix peer prefix) = 4
shape (SoughtAddress peer address) = 5

one_of_shape : (a b : Arguments) (ws : List (List ℕ)) → shape a ≡ shape b → SpellsArguments a ws → SpellsArguments b ws → a ≡ b
one_of_shape NoArguments NoArguments ws e h k = refl
one_of_shape (Times m) (Times n) ws e (inl once) (inl alone) = cc (once.0, alone.0)
one_of_shape (Times m) (Times n) ws e (inl once) (inr times) = absurd (cc (once.1, times.2))
one_of_shape (Times m) (Times n) ws e (inr times) (inl once) = absurd (cc (once.1, times.2))
one_of_shape (Times m) (Times n) ws e (inr times) (inr other) = ap Times (one_decimal m n times.0 other.0 (cc (times.2, other.2)) times.1.1 other.1.1)
one_of_shape (Number m) (Number n) ws e h k = ap Number (one_decimal m n h.0 k.0 (cc (h.2, k.2)) h.1 k.1)
one_of_shape (OfPeer p) (OfPeer q) ws e h k = ap OfPeer (one_peer p q h.0 k.0 h.1 k.1 (cc (h.3, k.3)) (cc (h.3, k.3)) h.2 k.2)
one_of_shape (SoughtPrefix p m) (SoughtPrefix q n) ws e h k =
    let same = one_sought SpellsPrefix p q m n ws one_prefix h k in
    λ i. SoughtPrefix (same.0 i) (same.1 i)
one_of_shape (SoughtAddress p m) (SoughtAddress q n) ws e h k =
    let same = one_sought SpellsAddress p q m n ws one_address h k in
    λ i. SoughtAddress (same.0 i) (same.1 i)
one_of_shape a b ws e h k = absurd (omega (arith, e))

-- ---- names

-- a number that tells names apart, by all of their letters
abbrev mark : List ℕ → ℕ
mark [] = 0
mark (letter ∷ name) = 1 + letter + 256 * mark name

-- a name has letters
mark_some : (c : Command) → 0 < mark (name_and_arguments c).0
mark_some (Next n) = omega arith
mark_some c = omega arith

-- one name is of one shape, and with the same behind it one command
same_shape : (a b : Command) → (name_and_arguments a).0 ≡ (name_and_arguments b).0 → shape (name_and_arguments a).1 ≡ shape (name_and_arguments b).1
same_shape (Next m) (Next n) e = refl
same_shape a b e = search (arith, rules, ap mark e)

same_command : (a b : Command) → (name_and_arguments a).0 ≡ (name_and_arguments b).0 → (name_and_arguments a).1 ≡ (name_and_arguments b).1 → a ≡ b
same_command (Next m) (Next n) e same = search (rules, same)
same_command a b e same = search (arith, rules, ap mark e, same)

-- ---- lines

-- no words spell two commands
pub one_of_words : (a b : Command) (ws : List (List ℕ)) → SpellsWords a ws → SpellsWords b ws → a ≡ b
one_of_words a b ws h k =
    let named : (name_and_arguments a).0 ≡ (name_and_arguments b).0 = cc (h.2, k.2) in
    let rest : h.0 ≡ k.0 = cc (h.2, k.2) in
    same_command a b named (one_of_shape (name_and_arguments a).1 (name_and_arguments b).1 k.0 (same_shape a b named) (subst (SpellsArguments (name_and_arguments a).1) rest h.1) k.1)

-- a line spells what its words spell
pub found_in : (line : List ℕ) (ws : List (List ℕ)) (result : Option Command) → split_at_marks space line ≡ ws → ParsesTo SpellsWords ws result → ParsesTo SpellsCommand line result
found_in line ws result same found = subst (λ w. ParsesTo SpellsWords w result) (sym same) found

-- more than four words spell none
pub many_words : (ws more : List (List ℕ)) (a b c d : List ℕ) → ws ≡ a ∷ b ∷ c ∷ d ∷ more → 0 < length more → IsNoSpelling SpellsWords ws
many_words ws more a b c d same some command h =
    omega (arith, few_words (name_and_arguments command).1 h.0 h.1, ap length h.2, ap length same, some)

-- nor does one empty word
pub empty_word : (ws : List (List ℕ)) → ws ≡ [] ∷ [] → IsNoSpelling SpellsWords ws
empty_word ws same command h =
    let none : [] ≡ (name_and_arguments command).0 = cc (same, h.2) in
    omega (arith, mark_some command, ap mark none)

-- nor a route without a prefix
pub route_none : (name address number sought : List ℕ) → name ≡ codes "route" → IsNoSpelling SpellsPrefix sought → IsNoSpelling SpellsWords (name ∷ address ∷ number ∷ sought ∷ [])
route_none name address number sought named none (Route peer prefix) h = none prefix (subst (SpellsPrefix prefix) (cc (h.1.5, h.2)) h.1.4)
route_none name address number sought named none c h =
    let same : codes "route" ≡ (name_and_arguments c).0 = cc (named, h.2) in
    absurd (omega (arith, ap mark same))

-- ---- what lines ask for

-- an empty line spells no command
empty_line : (command : Command) (octets : List ℕ) → octets ≡ [] → SpellsCommand command octets → ⊥
empty_line command octets none spelled = empty_word (split_at_marks space octets) (ap (split_at_marks space) none) command spelled

pub one_line : (a b : Line) (octets : List ℕ) → IsLine a octets → IsLine b octets → a ≡ b
one_line Empty Empty octets h k = refl
one_line Empty (HasCommand command) octets h k = absurd (empty_line command octets h k)
one_line Empty NoCommand octets h k = absurd (k.0 h)
one_line (HasCommand command) Empty octets h k = absurd (empty_line command octets k h)
one_line (HasCommand command) (HasCommand other) octets h k = ap HasCommand (one_of_words command other (split_at_marks space octets) h k)
one_line (HasCommand command) NoCommand octets h k = absurd (k.1 command h)
one_line NoCommand Empty octets h k = absurd (h.0 k)
one_line NoCommand (HasCommand command) octets h k = absurd (h.1 command k)
one_line NoCommand NoCommand octets h k = refl

pub one_reading : (a b : List Line) (octets : List (List ℕ)) → AreLines a octets → AreLines b octets → a ≡ b
one_reading [] [] octets h k = refl
one_reading [] (y ∷ b) [] h k = absurd k
one_reading [] (y ∷ b) (o ∷ octets) h k = absurd h
one_reading (x ∷ a) [] [] h k = absurd h
one_reading (x ∷ a) [] (o ∷ octets) h k = absurd k
one_reading (x ∷ a) (y ∷ b) [] h k = absurd h
one_reading (x ∷ a) (y ∷ b) (o ∷ octets) h k = ap₂ (λ l ls. l ∷ ls) (one_line x y o h.0 k.0) (one_reading a b octets h.1 k.1)

-- and of lines and others behind them
pub first_reading : (begun lines : List Line) (first rest : List (List ℕ)) → AreLines begun first → AreLines lines (first ++ rest) → (left : List Line) × (lines ≡ begun ++ left)
first_reading [] lines [] rest h k = (lines, refl)
first_reading [] lines (o ∷ first) rest h k = absurd h
first_reading (x ∷ begun) lines [] rest h k = absurd h
first_reading (x ∷ begun) [] (o ∷ first) rest h k = absurd k
first_reading (x ∷ begun) (y ∷ lines) (o ∷ first) rest h k =
    let more = first_reading begun lines first rest h.1 k.1 in
    (more.0, ap₂ (λ l ls. l ∷ ls) (sym (one_line x y o h.0 k.0)) more.1)

-- ---- lines without a reading

-- no octets of a line ask for nothing that is told
line_read : (octets : List ℕ) → ((line : Line) → IsLine line octets → ⊥) → ⊥
line_read [] none = none Empty refl
line_read (octet ∷ octets) none = none NoCommand ((λ e. cc), λ command spelled. none (HasCommand command) spelled)

pub lines_read : (octets : List (List ℕ)) → ((lines : List Line) → AreLines lines octets → ⊥) → ⊥
lines_read [] none = none [] tt
lines_read (o ∷ octets) none = lines_read octets (λ lines are. line_read o (λ line is. none (line ∷ lines) (is, are)))
