-- The lines of a list's items, written one after the other.
use Rattle.std.proofs.Common.{codes, ◌≡◌, ℕ, true, List, [], ◌∷◌, ◌++◌, length, Bor, Option, Some, None, Result, Ok, Err, is_some, slice_get, refl, sym, ap, subst, ◌∙◌, flat_map, map, option_map, append_assoc, append-nil, Global}
use Rattle.std.specs.Io.KnownBytes.{Appends}
use Rattle.std.proofs.KnownBytes.{Appends-nil, Appends-trans}
use Rattle.std.specs.declared.rc.Rc.{Rc}
use Rattle.ip_prefix.specs.Network.{Network}
use Rattle.mrt_events.specs.declared.event.Route.{Route}
use Rattle.rib_player.specs.Lookups.{pointed_routes, counted_peers}
use Rattle.std.proofs.lemmas.Grind.{flat_map-append}
use Rattle.mrt_events.specs.declared.peer.Peer.{Peer}
use Rattle.rib_player.specs.Tables.{Routes, peer_routes, routed_peers}
use Rattle.prefix_store.specs.Stored.{saturated_count}
use Rattle.std.specs.FinMap as finite
use Rattle.std.specs.FinMap.{len-entries}
use Rattle.bgpdump_lines.specs.declared.fault.WriteFault.{WriteFault}
use Rattle.bgpdump_lines.specs.declared.fault.WriteFault.TheVariants.{Write, Memory}
use Rattle.bgpdump_lines.specs.Run.{AppendsPrefix}
use Rattle.bgpdump_lines.specs.Lines.{rib_reply_line}
use Rattle.bgpdump_tool.specs.Counts.{count_line, peer_counts_text}
use Rattle.bgpdump_tool.specs.Replies.{peer_line, peer_lines, peers_text, labelled_numbers_line, table_text}
use Rattle.bgpdump_lines.specs.WrittenSoFar.{Puts, PutsAllOrFront}
use Rattle.bgpdump_lines.proofs.WritingLaws.{AppendsPrefix-none, AppendsPrefix-behind, AppendsPrefix-longer}

-- of all items the lines of those done were written; the others are ahead
pub record Walked {A : Type 0} (line : A → List ℕ) (all ahead : List A) (old new : Option (List ℕ)) : Type 0 where
  pub done : List A
  pub whole : all ≡ done ++ ahead
  pub appended : Appends old new (flat_map line done)

-- a text that was put, or a front of it, was put in part
pub PutsAllOrFront-put : {A : Type 0} (old new : Option (List ℕ)) (text : List ℕ) (result : Result A WriteFault) → Puts old new text result → PutsAllOrFront old new text result
PutsAllOrFront-put old new text (Ok done) put = put
PutsAllOrFront-put old new text (Err Write) put = put
PutsAllOrFront-put old new text (Err Memory) same = subst (λ known. AppendsPrefix old known text) (sym same) (AppendsPrefix-none old text)

-- behind a whole text
pub PutsAllOrFront-behind : (old mid new : Option (List ℕ)) (text more : List ℕ) (result : Result (Unit {0}) WriteFault) → Appends old mid text → Puts mid new more result → PutsAllOrFront old new (text ++ more) result
PutsAllOrFront-behind old mid new text more (Ok done) p put = Appends-trans old mid new text more p put
PutsAllOrFront-behind old mid new text more (Err fault) p put = AppendsPrefix-behind old mid new text more p (PutsAllOrFront-put {A = Unit {0}} mid new more (Err fault) put)

module _ {A : Type 0} (line : A → List ℕ) (all : List A) where
  -- at the start none is done
  abbrev pub Walked-start : (ahead : List A) (old : Option (List ℕ)) → ahead ≡ all → Walked line all ahead old old
  Walked-start ahead old same = record { done = []; whole = sym same; appended = Appends-nil old }

  -- at the end all are done
  pub Walked-end : (ahead : List A) (old new : Option (List ℕ)) → ahead ≡ [] → (p : Walked line all ahead old new) → (all ≡ p.done) × Appends old new (flat_map line all)
  Walked-end ahead old new none p =
      let same : all ≡ p.done = p.whole ∙ ap (λ items. p.done ++ items) none ∙ append-nil p.done in
      (same, subst (λ items. Appends old new (flat_map line items)) (sym same) p.appended)

  -- more lines
  abbrev pub Walked-many : (items ahead behind : List A) (old mid new : Option (List ℕ)) → ahead ≡ items ++ behind → Walked line all ahead old mid → Appends mid new (flat_map line items) → Walked line all behind old new
  Walked-many items ahead behind old mid new next p appended = record {
    done = p.done ++ items;
    whole = p.whole ∙ ap (λ xs. p.done ++ xs) next ∙ sym (append_assoc p.done items behind);
    appended = subst (Appends old new) (sym (flat_map-append line p.done items)) (Appends-trans old mid new (flat_map line p.done) (flat_map line items) p.appended appended);
  }

  -- a fault in them leaves a front of all lines
  pub Walked-breaks : (items ahead behind : List A) (old mid new : Option (List ℕ)) → ahead ≡ items ++ behind → Walked line all ahead old mid → AppendsPrefix mid new (flat_map line items) → AppendsPrefix old new (flat_map line all)
  Walked-breaks items ahead behind old mid new next p put =
      subst (AppendsPrefix old new) (sym (ap (flat_map line) (p.whole ∙ ap (λ xs. p.done ++ xs) next) ∙ flat_map-append line p.done (items ++ behind)))
      (AppendsPrefix-behind old mid new (flat_map line p.done) (flat_map line (items ++ behind)) p.appended
      (subst (AppendsPrefix mid new) (sym (flat_map-append line items behind)) (AppendsPrefix-longer mid new (flat_map line items) (flat_map line behind) put)))

  -- one more line
  abbrev pub Walked-next : (item : A) (ahead behind : List A) (old mid new : Option (List ℕ)) → ahead ≡ item ∷ behind → Walked line all ahead old mid → Appends mid new (line item) → Walked line all behind old new
  Walked-next item ahead behind old mid new next p appended =
      Walked-many (item ∷ []) ahead behind old mid new next p (subst (Appends mid new) (sym (append-nil (line item))) appended)

  -- a fault in it
  pub Walked-stops : (item : A) (ahead behind : List A) (old mid new : Option (List ℕ)) (fault : WriteFault) → ahead ≡ item ∷ behind → Walked line all ahead old mid
      → Puts {A = Unit {0}} mid new (line item) (Err fault) → AppendsPrefix old new (flat_map line all)
  Walked-stops item ahead behind old mid new fault next p put =
      Walked-breaks (item ∷ []) ahead behind old mid new next p (subst (AppendsPrefix mid new) (sym (append-nil (line item))) (PutsAllOrFront-put {A = Unit {0}} mid new (line item) (Err fault) put))

-- the lines of routes that are pointed to
abbrev pub pointed_lines : Peer → List (Network × Bor (Rc Route Global)) → List ℕ
pointed_lines peer found = flat_map (λ f. rib_reply_line peer (f.0, f.1.now.value)) found

pub lines-dereferenced : (peer : Peer) (found : List (Network × Bor (Rc Route Global))) → pointed_lines peer found ≡ flat_map (rib_reply_line peer) (pointed_routes found)
lines-dereferenced peer [] = refl
lines-dereferenced peer (f ∷ found) = ap (λ l. rib_reply_line peer (f.0, f.1.now.value) ++ l) (lines-dereferenced peer found)

-- a table's lines were written, and then how many they are
pub table_told : (routes : Routes) (peer : Peer) (ahead : List (Network × Route)) (old mid new : Option (List ℕ)) (count : ℕ) (result : Result (Unit {0}) WriteFault) → ahead ≡ [] → (walked : Walked (rib_reply_line peer) (finite.entries (peer_routes routes peer)) ahead old mid)
    → count ≡ saturated_count (length walked.done) → Puts mid new (labelled_numbers_line ((codes "routes ", count) ∷ [])) result → PutsAllOrFront old new (table_text routes peer) result
table_told routes peer ahead old mid new count result none walked is put =
    let entries = finite.entries (peer_routes routes peer) in
    let end = Walked-end (rib_reply_line peer) entries ahead old mid none walked in
    PutsAllOrFront-behind old mid new (flat_map (rib_reply_line peer) entries) (labelled_numbers_line ((codes "routes ", saturated_count (finite.len (peer_routes routes peer))) ∷ [])) result end.1
    (subst (λ n. Puts mid new (labelled_numbers_line ((codes "routes ", n) ∷ [])) result) (is ∙ ap saturated_count (ap length (sym end.0) ∙ sym (len-entries (peer_routes routes peer)))) put)

-- ---- peers

-- what was found, and what belongs to it
pub found_with : {A B : Type 0} (f : A → B) (found : Option A) (one : A × B) → option_map {U = A × B} (λ a. (a, f a)) found ≡ Some one → (found ≡ Some one.0) × (one.1 ≡ f one.0)
found_with f None one is = cc
found_with f (Some a) one is = (cc, cc)

-- one more item makes a list that has a first
pub some_first : {A : Type 0} (done : List A) (item : A) (ahead : List A) → is_some (slice_get (done ++ item ∷ ahead) 0) ≡ true
some_first [] item ahead = refl
some_first (first ∷ done) item ahead = refl

-- where there are peers, their lines are the whole reply
pub lines_of_some : (routes : Routes) (peers : List Peer) → is_some (slice_get peers 0) ≡ true → flat_map (peer_line routes) peers ≡ peer_lines routes peers
lines_of_some routes [] some = cc
lines_of_some routes (peer ∷ peers) some = refl

-- peers with their counts have the lines that they have without
paired-lines : (routes : Routes) (peers : List Peer)
    → flat_map count_line (map (λ (p : Peer). (p, saturated_count (finite.len (peer_routes routes p)))) peers) ≡ flat_map (peer_line routes) peers
paired-lines routes [] = refl
paired-lines routes (peer ∷ peers) = ap (λ l. peer_line routes peer ++ l) (paired-lines routes peers)

pub counts-told : (routes : Routes) → peer_counts_text (counted_peers routes) ≡ peers_text routes
counts-told routes = at (routed_peers routes)
  where
    at : (peers : List Peer) → peer_counts_text (map (λ (p : Peer). (p, saturated_count (finite.len (peer_routes routes p)))) peers) ≡ peer_lines routes peers
    at [] = refl
    at (peer ∷ peers) = paired-lines routes (peer ∷ peers)

-- a text of entries, where there are some
pub counts_of_some : (entries : List (Peer × ℕ)) → is_some (slice_get entries 0) ≡ true → flat_map count_line entries ≡ peer_counts_text entries
counts_of_some [] some = cc
counts_of_some (e ∷ es) some = refl
