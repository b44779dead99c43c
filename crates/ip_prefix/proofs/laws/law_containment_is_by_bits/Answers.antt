use Rattle.ip_prefix.proofs.Containing.{contains_parts, contains_from, covers_parts, covers_from, contains_covered, covers_all}
use Rattle.ip_prefix.proofs.laws.law_containment_is_by_bits.Goals as goal

pub returns : goal.returns
returns c = record {
  contained = λ n a. (contains_parts n a, λ h. contains_from n a h.0 h.1);
  covered = λ n other. (covers_parts n other, λ h. covers_from n other h.0 h.1);
  addresses = λ n other h. (λ p a whole q. contains_covered n other a p q, covers_all n other h);
}
