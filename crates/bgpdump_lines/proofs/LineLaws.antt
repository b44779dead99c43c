-- What items say, in order.
use Rattle.std.proofs.Common.{◌≡◌, ℕ, ◌+◌, ◌-◌, ◌≤◌, List, [], ◌∷◌, ◌++◌, map, length, take, drop, refl, ap, sym, ◌∙◌, arith, append_assoc, flat_map}
use Rattle.std.proofs.lemmas.List.{map-append, drop-drop, take-append-drop, take_all}
use Rattle.std.proofs.lemmas.Grind.{flat_map-append}
use Rattle.mrt_events.specs.declared.event.Item.{Item}
use Rattle.mrt_events.specs.declared.event.Event.{Event}
use Rattle.mrt_events.specs.Event.{ItemValue, item_value}
use Rattle.bgpdump_lines.specs.Lines.{item_line, event_lines}

-- the lines of what items say are those of the items
pub lines-sayings : (line : ItemValue → List ℕ) (items : List Item) → flat_map (λ item. line (item_value item)) items ≡ flat_map line (map item_value items)
lines-sayings line [] = refl
lines-sayings line (item ∷ items) = ap (λ l. line (item_value item) ++ l) (lines-sayings line items)

-- what is printed once all items are is the lines of what they say
pub lines_of_all : (line : ItemValue → List ℕ) (items : List Item) (count : ℕ) (old new : List ℕ) → new ≡ old ++ flat_map (λ item. line (item_value item)) (take count items)
    → length items ≤ count → new ≡ old ++ flat_map line (map item_value items)
lines_of_all line items count old new e le =
    e ∙ ap (λ l. old ++ flat_map (λ item. line (item_value item)) l) (take_all count items le) ∙ ap (λ l. old ++ l) (lines-sayings line items)

-- a list is its beginning, a part behind it, and the rest
parts : (items : List Item) (a b : ℕ) → a ≤ b → take a items ++ (take (b - a) (drop a items) ++ drop b items) ≡ items
parts items a b le =
    let e : a + (b - a) ≡ b = omega (arith, le) in
    ap (λ l. take a items ++ (take (b - a) (drop a items) ++ l)) (ap (λ n. drop n items) (sym e) ∙ sym (drop-drop (b - a) a items))
    ∙ ap (λ l. take a items ++ l) (take-append-drop (b - a) (drop a items)) ∙ take-append-drop a items

-- the lines of items and of others behind them
pub lines-append : (line : ItemValue → List ℕ) (one other : List Item) → flat_map line (map item_value (one ++ other)) ≡ flat_map line (map item_value one) ++ flat_map line (map item_value other)
lines-append line one other = ap (flat_map line) (map-append item_value one other) ∙ flat_map-append line (map item_value one) (map item_value other)

-- the lines of three parts of items are those of all
pub lines-parts : (line : ItemValue → List ℕ) (items : List Item) (a b : ℕ) (old first second new : List ℕ) → a ≤ b → first ≡ old ++ flat_map line (map item_value (take a items))
    → second ≡ first ++ flat_map line (map item_value (take (b - a) (drop a items))) → new ≡ second ++ flat_map line (map item_value (drop b items)) → new ≡ old ++ flat_map line (map item_value items)
lines-parts line items a b old first second new le p q r =
    let f : List Item → List ℕ = λ l. flat_map line (map item_value l) in
    let A = take a items in
    let B = take (b - a) (drop a items) in
    let C = drop b items in
    r ∙ ap (λ t. t ++ f C) (q ∙ ap (λ t. t ++ f B) p) ∙ append_assoc (old ++ f A) (f B) (f C) ∙ append_assoc old (f A) (f B ++ f C)
    ∙ ap (λ l. old ++ (f A ++ l)) (sym (lines-append line B C)) ∙ ap (λ l. old ++ l) (sym (lines-append line A (B ++ C))) ∙ ap (λ l. old ++ f l) (parts items a b le)

-- the lines of what three parts of an event's items say are those of the event
pub lines-three : (event : Event) (line : ItemValue → List ℕ) (items : List Item) (a b : ℕ) → line ≡ item_line event.time event.tag → a ≤ b → map item_value items ≡ event.items
    → event_lines event ≡ flat_map line (map item_value (take a items)) ++ (flat_map line (map item_value (take (b - a) (drop a items))) ++ flat_map line (map item_value (drop b items)))
lines-three event line items a b is le announcement =
    let f : List Item → List ℕ = λ l. flat_map line (map item_value l) in
    let A = take a items in
    let B = take (b - a) (drop a items) in
    let C = drop b items in
    (λ i. flat_map (sym is i) (sym announcement i)) ∙ sym (lines-parts line items a b [] (f A) (f A ++ f B) ((f A ++ f B) ++ f C) le refl refl refl) ∙ append_assoc (f A) (f B) (f C)

-- the lines of all items are those of the first ones, and then those of the others
pub lines_at : (line : ItemValue → List ℕ) (items : List Item) (i : ℕ) → flat_map line (map item_value items) ≡ flat_map (λ item. line (item_value item)) (take i items) ++ flat_map line (map item_value (drop i items))
lines_at line items i =
    ap (λ l. flat_map line (map item_value l)) (sym (take-append-drop i items)) ∙ lines-append line (take i items) (drop i items)
    ∙ ap (λ l. l ++ flat_map line (map item_value (drop i items))) (sym (lines-sayings line (take i items)))
