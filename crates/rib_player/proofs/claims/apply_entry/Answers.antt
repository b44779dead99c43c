use Rattle.std.proofs.Common.{◌≡◌, ℕ, ◌+◌, ◌<◌, ◌||◌, ◌&&◌, [], ◌∷◌, Bool, true, false, not, is_some, get_or, refl, sym, ap, ap₂, subst, ◌∙◌, arith}
use Rattle.std.specs.FinMap as finite
use Rattle.std.specs.FinSet as set
use Rattle.rib_player.specs.declared.pair.Pair.{Pair}
use Rattle.rib_player.specs.Claims.{one_if, claims_beyond, held_claims}
use Rattle.rib_player.specs.Tables.{pointed_route}
use Rattle.rib_player.specs.Journal.{side_of}
use Rattle.rib_player.specs.Sides.{Mark, mark_of}
use Rattle.prefix_store.specs.Stored.{put}
use Rattle.prefix_store.specs.declared.store.TheConstants.{GREATEST_COUNT}
use Rattle.rib_player.proofs.JournalLaws.{routes_across-sides_across}
use Rattle.rib_player.proofs.MarkLaws.{tied}
use Rattle.rib_player.proofs.HeldLaws.{made-claimed, insert-held, there-same, beyond-held, same-held}
use Rattle.rib_player.proofs.claims.apply_entry.Goals as goal
use Rattle.rib_player.proofs.claims.apply_entry.Given.{Over}
use Rattle.rib_player.proofs.claims.apply_entry.Goals.{Joined-then-made, then-made-via-then-made, then-made-via-else-made+then-not-releases_claim, In_ok-made, After-pair}

-- ---- the pair was no key, or the entry doesn't bring it

pub returns-then-made-clause-held : goal.returns-then-made-clause-held
returns-then-made-clause-held g c =
    insert-held c.args.table.now.keys c.put.new.table.keys (claims_beyond c.args.claims.now) (claims_beyond c.args.claims.now) c.args.entry.now.pair c.in_ok-made.ensures.keys (λ q. refl) c.requires.held

-- a pair that was no key has no route before the step, and so one behind it
brought : (before after : Bool) → (before || after) ≡ true → before ≡ false → (not before && after) ≡ true
brought before after some none = grind arith

-- it was a key where it is not made
known : (made key : Bool) → made ≡ not key → made ≡ false → key ≡ true
known made key e f = grind arith

unknown : (made key : Bool) → made ≡ not key → made ≡ true → key ≡ false
unknown made key e f = grind arith

pub returns-then-made-clause-claimed : goal.returns-then-made-clause-claimed
returns-then-made-clause-claimed g c = λ q.
    let p = c.args.entry.now.pair in
    let keys = c.args.table.now.keys in
    let beyond = claims_beyond c.args.claims.now in
    let marks = not c.put.new.self.before && c.put.new.self.after in
    let mark = ap (λ l. get_or l 0 (mark_of c.put.new.self)) c.in_ok-made.ensures.put.marks in
    elim c.then-made.branch [
      | then-made-via-then-made w ↦
          let out : set.contains keys p ≡ false = unknown c.in_ok-made.made (set.contains keys p) c.in_ok-made.ensures.made w.if-made.true in
          let none : is_some (finite.get c.args.table.now.routes p) ≡ false = ap is_some (c.requires.among p out) in
          let brings : marks ≡ true =
          brought c.put.new.self.before c.put.new.self.after
          (ap (λ (m : Mark). m.before || m.after) mark ∙ c.requires.named)
          (ap (λ (m : Mark). m.before) mark ∙ none) in
          made-claimed keys c.put.new.table.keys beyond beyond p q c.in_ok-made.ensures.keys refl out
          ∙ ap (λ b. held_claims keys beyond q + one_if (b && tied q p)) (sym brings)
      | then-made-via-else-made+then-not-releases_claim w ↦
          let there : set.contains keys p ≡ true = known c.in_ok-made.made (set.contains keys p) c.in_ok-made.ensures.made w.if-made.false in
          ap (λ b. one_if b + beyond q) (there-same keys c.put.new.table.keys p q c.in_ok-made.ensures.keys there)
          ∙ none_more (held_claims keys beyond q)
          ∙ ap (λ b. held_claims keys beyond q + one_if (b && tied q p)) (sym (sym w.releases_claim.ensures ∙ w.if-not-releases_claim.true))
    ] ∙ ap (λ pair. held_claims keys beyond q + one_if (marks && tied q pair)) (sym c.in_ok-made.ensures.pair)
  where
    none_more : (n : ℕ) → n ≡ n + 0
    none_more n = omega arith

-- ---- it was a key, and the entry brings it

there : (g : Over) (c : After-pair g) → set.contains c.args.table.now.keys c.args.entry.now.pair ≡ true
there g c = known c.in_ok-made.made (set.contains c.args.table.now.keys c.args.entry.now.pair) c.in_ok-made.ensures.made c.if-made.false

same : (g : Over) (c : After-pair g) (q : Pair) → set.contains c.put.new.table.keys q ≡ set.contains c.args.table.now.keys q
same g c q = there-same c.args.table.now.keys c.put.new.table.keys c.args.entry.now.pair q c.in_ok-made.ensures.keys (there g c)

pub increment-requires : goal.increment-requires
increment-requires g c = subst (λ q. claims_beyond c.args.claims.now q < GREATEST_COUNT) (sym (c.pair.ensures ∙ c.in_ok-made.ensures.pair)) c.requires.few

pub exchange-requires : goal.exchange-requires
exchange-requires g c =
    let b = (goal.at.exchange-requires g c).After-pair in
    ap (set.contains c.put.new.table.keys) c.in_ok-made.ensures.pair ∙ same g b c.args.entry.now.pair ∙ there g b

pub returns-in-Err-clause-held : goal.returns-in-Err-clause-held
returns-in-Err-clause-held g c =
    let b = (goal.at.returns-in-Err-clause-held g c).After-pair in
    same-held c.args.table.now.keys c.exchange.new.table.keys (claims_beyond c.args.claims.now) (claims_beyond c.increment.new.self)
    (λ q. ap (λ k. set.contains k q) c.exchange.ensures.keys ∙ same g b q) c.in-Err.ensures.refused c.requires.held

pub returns-in-Err-clause-refused : goal.returns-in-Err-clause-refused
returns-in-Err-clause-refused g c = λ q.
    let b = (goal.at.returns-in-Err-clause-refused g c).After-pair in
    ap₂ (λ k n. one_if k + n) (ap (λ k. set.contains k q) c.exchange.ensures.keys ∙ same g b q) (c.in-Err.ensures.refused q)

pub returns-in-Err-clause-kept : goal.returns-in-Err-clause-kept
returns-in-Err-clause-kept g c =
    let routes = c.args.table.now.routes in
    let p = c.args.entry.now.pair in
    c.exchange.ensures.routes
    ∙ ap₂ (λ r q. put r q (pointed_route c.put.new.self.other)) c.in_ok-made.ensures.put.routes c.in_ok-made.ensures.pair
    ∙ ap (λ l. put (put routes p (pointed_route c.args.entry.now.other)) p (get_or l 0 (side_of c.put.new.self)).1) c.in_ok-made.ensures.put.sides
    ∙ routes_across-sides_across ((p, pointed_route c.args.entry.now.other) ∷ []) routes

pub returns-clause-held : goal.returns-clause-held
returns-clause-held g c =
    let b = (goal.at.returns-clause-held g c).After-pair in
    beyond-held c.args.table.now.keys c.put.new.table.keys (claims_beyond c.args.claims.now) (claims_beyond c.increment.new.self) c.args.entry.now.pair (same g b) (there g b)
    (λ q. c.in_default.ensures.counted q ∙ ap (λ p. claims_beyond c.args.claims.now q + one_if (tied q p)) (c.pair.ensures ∙ c.in_ok-made.ensures.pair)) c.requires.held

pub returns-clause-claimed : goal.returns-clause-claimed
returns-clause-claimed g c = λ q.
    let b = (goal.at.returns-clause-claimed g c).After-pair in
    let brings = sym c.releases_claim.ensures ∙ c.if-not-releases_claim.false in
    omega (
      arith,
      ap one_if (same g b q),
      c.in_default.ensures.counted q,
      ap (λ p. one_if (tied q p)) c.pair.ensures,
      ap (λ x. one_if (x && tied q c.put.new.self.pair)) brings,
    )
