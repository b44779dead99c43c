-- What entries and prefixes say, one by one.
use Rattle.std.proofs.Common.{◌≡◌, ℕ, suc, ◌+◌, ◌<◌, map, take, get_or, slice_get, List, [], ◌∷◌, ◌++◌, length, length-append, ap, sym, ◌∙◌, arith, append_assoc, find, take-suc}
use Rattle.std.specs.Option.{is_none, option_or}
use Rattle.std.proofs.lemmas.List.{map-append, flat_map_more}
use Rattle.std.proofs.lemmas.List.Folds.{find-append}
use Rattle.ip_prefix.specs.Network.{Network}
use Rattle.mrt_events.specs.declared.peer.Peer.{Peer}
use Rattle.mrt_events.specs.declared.event.Item.{Item}
use Rattle.ip_prefix.specs.Sequences.{Begins, SpellsAll}
use Rattle.octet_forms.proofs.Sequences.{one_more}
use Rattle.mrt_wire.specs.declared.rib.TableContext.{TableContext}
use Rattle.mrt_wire.specs.declared.rib.ParsedEntries.{ParsedEntries}
use Rattle.mrt_events.specs.Event.{ItemValue, item_value}
use Rattle.mrt_wire.specs.Rib.{RibEntry, SpellsEntry}
use Rattle.mrt_wire.specs.Items.{first_unknown}
use Rattle.mrt_wire.specs.Decoding.{AddsItems, AreItemsOf, context_items}

-- the first number that is no peer's, with an entry more
first_unknown-push : (peers : List Peer) (entries : List RibEntry) (entry : RibEntry) → first_unknown peers (entries ++ entry ∷ []) ≡ option_or (first_unknown peers entries) (first_unknown peers (entry ∷ []))
first_unknown-push peers entries entry =
    ap (find (λ number. is_none (slice_get peers number))) (map-append (λ entry. entry.index) entries (entry ∷ [])) ∙ find-append _ (map (λ entry. entry.index) entries) (entry.index ∷ [])

-- an item more says of the next prefix what the others say of theirs
pub one_more_prefix : (f : Network → ItemValue) (old items new : List Item) (item : Item) (prefixes : List Network) (k : ℕ) (prefix : Network) → AddsItems old items (map f (take k prefixes)) → new ≡ items ++ item ∷ []
    → item_value item ≡ f prefix → prefix ≡ get_or prefixes k prefix → k < length prefixes → AddsItems old new (map f (take (k + 1) prefixes))
one_more_prefix f old items new item prefixes k prefix a n s g less =
    let next : suc k ≡ k + 1 = omega arith in
    let taken : take k prefixes ++ prefix ∷ [] ≡ take (k + 1) prefixes = ap (λ p. take k prefixes ++ p ∷ []) g ∙ sym (take-suc prefixes k prefix less) ∙ ap (λ j. take j prefixes) next in
    ap (map item_value) n ∙ map-append item_value items (item ∷ []) ∙ (λ i. a i ++ s i ∷ []) ∙ append_assoc (map item_value old) (map f (take k prefixes)) (f prefix ∷ [])
    ∙ ap (λ l. map item_value old ++ l) (sym (map-append f (take k prefixes) (prefix ∷ []))) ∙ ap (λ l. map item_value old ++ map f l) taken

-- ---- entries read so far

-- so many entries stand before the rest, and this is what they say
pub record ItemsSoFar (context : TableContext) (prefix : Network) (count : ℕ) (parsed : ParsedEntries) (rest octets : List ℕ) : Type 0 where
  pub entries : List RibEntry
  pub size : length entries ≡ count
  pub read : Begins (SpellsAll (SpellsEntry context.family)) entries rest octets
  pub tells : AreItemsOf context (record { prefix = prefix; entries = entries }) parsed

-- with an entry more
pub ItemsSoFar-push : (context : TableContext) (prefix : Network) (count : ℕ) (parsed parsed' : ParsedEntries) (rest more octets : List ℕ) (entry : RibEntry) → ItemsSoFar context prefix count parsed rest octets
    → Begins (SpellsEntry context.family) entry more rest
    → map item_value parsed'.items.items ≡ map item_value parsed.items.items ++ context_items context prefix entry
    → parsed'.unknown ≡ option_or parsed.unknown (first_unknown context.peers.now (entry ∷ [])) → ItemsSoFar context prefix (count + 1) parsed' more octets
ItemsSoFar-push context prefix count parsed parsed' rest more octets entry s front items unknown =
    let says = context_items context prefix in
    record {
      entries = s.entries ++ entry ∷ [];
      size = omega (arith, length-append s.entries (entry ∷ []), s.size);
      read = one_more (SpellsEntry context.family) s.entries entry more rest octets s.read front;
      tells = record {
        items = items ∙ ap (λ l. l ++ says entry) s.tells.items ∙ flat_map_more says [] s.entries entry;
        unknown = unknown ∙ ap (λ o. option_or o (first_unknown context.peers.now (entry ∷ []))) s.tells.unknown ∙ sym (first_unknown-push context.peers.now s.entries entry);
      };
    }
