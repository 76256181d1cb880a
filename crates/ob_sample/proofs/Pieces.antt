-- A text that grows by pieces.
use Rattle.std.proofs.Common.{◌≡◌, ℕ, List, ◌++◌, ap, ◌∙◌, append_assoc}

pub three : (s0 s1 s2 s3 a n d b : List ℕ) → s1 ≡ s0 ++ a → s2 ≡ s1 ++ n → n ≡ d → s3 ≡ s2 ++ b → s3 ≡ s0 ++ (a ++ (d ++ b))
three s0 s1 s2 s3 a n d b first second same third =
    third ∙ ap (λ x. x ++ b) (second ∙ ap (λ x. x ++ n) first ∙ ap (λ x. (s0 ++ a) ++ x) same) ∙ append_assoc (s0 ++ a) d b ∙ append_assoc s0 a (d ++ b)

pub five : (s0 s1 s2 s3 s4 s5 a n d b e : List ℕ) → s1 ≡ s0 ++ a → s2 ≡ s1 ++ n → n ≡ d → s3 ≡ s2 ++ b → s4 ≡ s3 ++ n → s5 ≡ s4 ++ e → s5 ≡ s0 ++ (a ++ (d ++ (b ++ (d ++ e))))
five s0 s1 s2 s3 s4 s5 a n d b e first second same third fourth fifth =
    three s2 s3 s4 s5 b n d e third fourth same fifth ∙ ap (λ x. x ++ (b ++ (d ++ e))) (second ∙ ap (λ x. x ++ n) first ∙ ap (λ x. (s0 ++ a) ++ x) same) ∙
    append_assoc (s0 ++ a) d (b ++ (d ++ e)) ∙ append_assoc s0 a (d ++ (b ++ (d ++ e)))
