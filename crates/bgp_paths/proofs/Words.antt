-- Words and what stands between them.
use Rattle.std.proofs.Common.{◌≡◌, ℕ, ◌-◌, List, [], ◌∷◌, ◌++◌, length, take, max, refl, ap, sym, ◌∙◌, arith, append_assoc, append-nil}
use Rattle.std.specs.List.{join_with_byte}
use Rattle.std.proofs.lemmas.List.{length-append, take-append-le, take_all}
use Rattle.ip_prefix.specs.Written.{ended_words}

-- words that each have an end are those that are joined and a last end
ended_words-joined : (separator : ℕ) (word : List ℕ) (words : List (List ℕ)) → ended_words separator (word ∷ words) ≡ join_with_byte separator (word ∷ words) ++ separator ∷ []
ended_words-joined separator word [] = append-nil (word ++ separator ∷ [])
ended_words-joined separator word (next ∷ words) =
    append_assoc word (separator ∷ []) (ended_words separator (next ∷ words))
    ∙ ap (λ l. word ++ separator ∷ l) (ended_words-joined separator next words)
    ∙ sym (append_assoc word (separator ∷ join_with_byte separator (next ∷ words)) (separator ∷ []))

-- without the last end the words are joined
pub dropped : (old : List ℕ) (separator : ℕ) (words : List (List ℕ)) (size : ℕ) → size ≡ max (length (old ++ ended_words separator words) - 1) (length old)
    → take size (old ++ ended_words separator words) ≡ old ++ join_with_byte separator words
dropped old separator [] size e = take_all size (old ++ []) (omega (arith, e, length-append old [])) ∙ refl
dropped old separator (word ∷ words) size e =
    let text = join_with_byte separator (word ∷ words) in
    let whole : old ++ ended_words separator (word ∷ words) ≡ (old ++ text) ++ separator ∷ [] = ap (λ l. old ++ l) (ended_words-joined separator word words) ∙ sym (append_assoc old text (separator ∷ [])) in
    let size_is : size ≡ length (old ++ text) = omega (arith, e, ap length whole, length-append (old ++ text) (separator ∷ []), length-append old text) in
    ap (take size) whole ∙ take-append-le size (old ++ text) (separator ∷ []) (omega (arith, size_is)) ∙ take_all size (old ++ text) (omega (arith, size_is))
