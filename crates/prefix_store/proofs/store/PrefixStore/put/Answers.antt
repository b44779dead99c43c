use Rattle.std.proofs.Common.{◌||◌, ap, ◌∙◌}
use Rattle.std.specs.Cmp.{eq_by_cmp_equiv}
use Rattle.std.specs.FinSet as set
use Rattle.ip_prefix.specs.OrderLaws.{network_cmp_total}
use Rattle.prefix_store.proofs.store.PrefixStore.put.Goals as goal

pub exchange-requires : goal.exchange-requires
exchange-requires g c =
    ap (λ keys. set.contains keys c.args.prefix.now) c.in_ok-made.ensures.keys
    ∙ set.contains-insert network_cmp_total (g.Self.PrefixStore.keys c.args.self.now) c.args.prefix.now c.args.prefix.now
    ∙ ap (λ b. b || set.contains (g.Self.PrefixStore.keys c.args.self.now) c.args.prefix.now) ((eq_by_cmp_equiv network_cmp_total).refl c.args.prefix.now)
