use Rattle.std.proofs.Common.{◌≡◌, ◌+◌, ◌<◌, ℕ, sym, refl, subst, ◌∙◌, arith}
use Rattle.std.proofs.lemmas.Result.{on_ok_weaker, on_err_weaker}
use Rattle.std.specs.Ordering.{eq_by_cmp, nat_cmp}
use Rattle.ip_prefix.specs.Network.{network_cmp}
use Rattle.prefix_store.specs.declared.store.TheConstants.{GREATEST_COUNT}
use Rattle.rib_player.specs.KeyCounts.{count_at}
use Rattle.rib_player.specs.Claims.{one_if, v4_prefix_number, by_family}
use Rattle.rib_player.proofs.CountedLaws.{v4-counted}
use Rattle.rib_player.proofs.claims.ExtraKeyClaimsOfPeer.increment.Goals as goal

pub increment-requires : goal.increment-requires
increment-requires c =
    subst (λ key. count_at nat_cmp c.args.self.now.v4 key < GREATEST_COUNT) (sym c.v4_prefix_number.ensures.key)
    (subst (λ f. by_family f (count_at nat_cmp c.args.self.now.v4 (v4_prefix_number c.args.prefix.now)) (count_at network_cmp c.args.self.now.v6 c.args.prefix.now) < GREATEST_COUNT) (sym c.family.ensures ∙ c.in-V4.is) c.requires)

pub increment-requires-in-V6 : goal.increment-requires-in-V6
increment-requires-in-V6 c =
    subst (λ f. by_family f (count_at nat_cmp c.args.self.now.v4 (v4_prefix_number c.args.prefix.now)) (count_at network_cmp c.args.self.now.v6 c.args.prefix.now) < GREATEST_COUNT) (sym c.family.ensures ∙ c.in-V6.is) c.requires

pub returns-in-V4-clause-counted : goal.returns-in-V4-clause-counted
returns-in-V4-clause-counted c =
    on_ok_weaker c.increment.result (λ increment.
    v4-counted c.args.self.now (record { v4 = c.increment.new.self; v6 = c.args.self.now.v6 }) c.args.prefix.now (λ new old b. new ≡ old + one_if b) (sym c.family.ensures ∙ c.in-V4.is) c.v4_prefix_number.ensures.within refl
    (subst (λ key. (k : ℕ) → count_at nat_cmp c.increment.new.self k ≡ count_at nat_cmp c.args.self.now.v4 k + one_if (eq_by_cmp nat_cmp k key)) c.v4_prefix_number.ensures.key increment)
    (λ m. omega arith)) c.increment.ensures.counted

pub returns-in-V4-clause-refused : goal.returns-in-V4-clause-refused
returns-in-V4-clause-refused c =
    on_err_weaker c.increment.result (λ same.
    v4-counted c.args.self.now (record { v4 = c.increment.new.self; v6 = c.args.self.now.v6 }) c.args.prefix.now (λ new old b. new ≡ old) (sym c.family.ensures ∙ c.in-V4.is) c.v4_prefix_number.ensures.within refl
    same (λ m. refl)) c.increment.ensures.refused
