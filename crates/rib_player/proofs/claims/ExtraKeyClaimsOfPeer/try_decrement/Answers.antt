use Rattle.std.proofs.Common.{◌≡◌, ◌+◌, ◌&&◌, Bool, false, ℕ, sym, refl, subst, ◌∙◌, arith}
use Rattle.std.specs.Ordering.{eq_by_cmp, nat_cmp}
use Rattle.rib_player.specs.KeyCounts.{count_at}
use Rattle.rib_player.specs.Claims.{one_if}
use Rattle.rib_player.proofs.CountedLaws.{v4-counted}
use Rattle.rib_player.proofs.claims.ExtraKeyClaimsOfPeer.try_decrement.Goals as goal

pub returns-in-V4-clause-counted : goal.returns-in-V4-clause-counted
returns-in-V4-clause-counted c =
    v4-counted c.args.self.now (record { v4 = c.try_decrement.new.self; v6 = c.args.self.now.v6 }) c.args.prefix.now (λ new old b. new + one_if (c.try_decrement.result && b) ≡ old) (sym c.family.ensures ∙ c.in-V4.is) c.v4_prefix_number.ensures.within refl
    (subst (λ key. (k : ℕ) → count_at nat_cmp c.try_decrement.new.self k + one_if (c.try_decrement.result && eq_by_cmp nat_cmp k key) ≡ count_at nat_cmp c.args.self.now.v4 k) c.v4_prefix_number.ensures.key c.try_decrement.ensures.counted)
    (none c.try_decrement.result)
  where
    none : (b : Bool) (m : ℕ) → m + one_if (b && false) ≡ m
    none b m = grind arith
