-- Which answers have which status.
use Rattle.std.proofs.Common.{◌≡◌, ◌≢◌, ℕ, ◌<◌, ◌≤◌, ◌⊎◌, refl, arith, inl, inr}
use Rattle.ob_model.specs.declared.endings.Ending.{Ending}
use Rattle.ob_model.specs.declared.endings.Ending.TheVariants.{Ended, Steps, Divide, Stack, Descriptors, Far, Spent, ReadFault, WriteFault, NoMemory}
use Rattle.ob_model.specs.Endings as endings
use Rattle.ob_model.specs.Laws.{OwnStatusIsBelow}
use Rattle.ob_tree.specs.declared.faults.SourceFault.{SourceFault}
use Rattle.ob_tree.specs.declared.faults.SourceFault.TheVariants as source
use Rattle.ob_tree.specs.declared.faults.SyntaxKind.TheVariants as syntax
use Rattle.ob_code.specs.declared.faults.BadImage.{BadImage}
use Rattle.ob_commands.specs.declared.answer.Answer.{Answer}
use Rattle.ob_commands.specs.declared.answer.Answer.TheVariants.{Done, Usage, FileFault, FileLong, Refused, Bad, Ran, NotYet}
use Rattle.ob_commands.specs.Answers.{fault_status, status_of}
use Rattle.ob_commands.specs.Laws.{IsOwn, done, ended}

-- the status of a fault: one of four, or that of want of memory
faults_apart : (f : SourceFault) → ((131 ≤ fault_status f) × (fault_status f ≤ 134)) ⊎ (fault_status f ≡ 144)
faults_apart (source.Lex kind line column) = inl (omega arith, omega arith)
faults_apart (source.Syntax syntax.NoTree line column) = inl (omega arith, omega arith)
faults_apart (source.Syntax syntax.TooDeep line column) = inl (omega arith, omega arith)
faults_apart (source.Typing kind line column) = inl (omega arith, omega arith)
faults_apart source.Statics = inl (omega arith, omega arith)
faults_apart source.Code = inl (omega arith, omega arith)
faults_apart source.NoMemory = inr refl

-- the status of an ending: below 128, or one of nine
endings_apart : OwnStatusIsBelow → (e : Ending) → (endings.status_of e < 128) ⊎ ((136 ≤ endings.status_of e) × (endings.status_of e ≤ 144))
endings_apart small (Ended n) = inl (small n)
endings_apart small Steps = inr (omega arith, omega arith)
endings_apart small Divide = inr (omega arith, omega arith)
endings_apart small Stack = inr (omega arith, omega arith)
endings_apart small Descriptors = inr (omega arith, omega arith)
endings_apart small Far = inr (omega arith, omega arith)
endings_apart small Spent = inr (omega arith, omega arith)
endings_apart small ReadFault = inr (omega arith, omega arith)
endings_apart small WriteFault = inr (omega arith, omega arith)
endings_apart small NoMemory = inr (omega arith, omega arith)

no_ending : OwnStatusIsBelow → (e : Ending) (s : ℕ) → endings.status_of e ≡ s → 128 ≤ s → (s < 136) ⊎ (144 < s) → ⊥
no_ending small e s is low (inl high) = elim (endings_apart small e) [ inl below ↦ omega (arith, below, is, low) | inr above ↦ let a = above.0 in omega (arith, a, is, high) ]
no_ending small e s is low (inr high) = elim (endings_apart small e) [ inl below ↦ omega (arith, below, is, low) | inr above ↦ let a = above.1 in omega (arith, a, is, high) ]

no_fault : (f : SourceFault) (s : ℕ) → fault_status f ≡ s → (s < 131) ⊎ (134 < s) → s ≢ 144 → ⊥
no_fault f s is (inl low) other = elim (faults_apart f) [ inl within ↦ let a = within.0 in omega (arith, a, is, low) | inr memory ↦ omega (arith, memory, is, low) ]
no_fault f s is (inr high) other = elim (faults_apart f) [ inl within ↦ let a = within.1 in omega (arith, a, is, high) | inr memory ↦ other (omega (arith, memory, is)) ]

pub is_usage : OwnStatusIsBelow → (x : Answer) → status_of x ≡ 128 → x ≡ Usage
is_usage small Done e = absurd (omega (arith, e))
is_usage small Usage e = refl
is_usage small FileFault e = absurd (omega (arith, e))
is_usage small FileLong e = absurd (omega (arith, e))
is_usage small (Refused f) e = absurd (no_fault f 128 e (inl (omega arith)) (λ n. omega (arith, n)))
is_usage small (Bad b) e = absurd (omega (arith, e))
is_usage small (Ran x) e = absurd (no_ending small x 128 e (omega arith) (inl (omega arith)))
is_usage small NotYet e = absurd (omega (arith, e))

pub is_file_fault : OwnStatusIsBelow → (x : Answer) → status_of x ≡ 129 → x ≡ FileFault
is_file_fault small Done e = absurd (omega (arith, e))
is_file_fault small Usage e = absurd (omega (arith, e))
is_file_fault small FileFault e = refl
is_file_fault small FileLong e = absurd (omega (arith, e))
is_file_fault small (Refused f) e = absurd (no_fault f 129 e (inl (omega arith)) (λ n. omega (arith, n)))
is_file_fault small (Bad b) e = absurd (omega (arith, e))
is_file_fault small (Ran x) e = absurd (no_ending small x 129 e (omega arith) (inl (omega arith)))
is_file_fault small NotYet e = absurd (omega (arith, e))

pub is_file_long : OwnStatusIsBelow → (x : Answer) → status_of x ≡ 130 → x ≡ FileLong
is_file_long small Done e = absurd (omega (arith, e))
is_file_long small Usage e = absurd (omega (arith, e))
is_file_long small FileFault e = absurd (omega (arith, e))
is_file_long small FileLong e = refl
is_file_long small (Refused f) e = absurd (no_fault f 130 e (inl (omega arith)) (λ n. omega (arith, n)))
is_file_long small (Bad b) e = absurd (omega (arith, e))
is_file_long small (Ran x) e = absurd (no_ending small x 130 e (omega arith) (inl (omega arith)))
is_file_long small NotYet e = absurd (omega (arith, e))

pub is_refused : OwnStatusIsBelow → (x : Answer) (s : ℕ) → status_of x ≡ s → 131 ≤ s → s ≤ 134 → (f : SourceFault) × (x ≡ Refused f)
is_refused small Done s e low high = absurd (omega (arith, e, low))
is_refused small Usage s e low high = absurd (omega (arith, e, low))
is_refused small FileFault s e low high = absurd (omega (arith, e, low))
is_refused small FileLong s e low high = absurd (omega (arith, e, low))
is_refused small (Refused f) s e low high = (f, refl)
is_refused small (Bad b) s e low high = absurd (omega (arith, e, high))
is_refused small (Ran x) s e low high = absurd (no_ending small x s e (omega (arith, low)) (inl (omega (arith, high))))
is_refused small NotYet s e low high = absurd (omega (arith, e, high))

pub is_bad : OwnStatusIsBelow → (x : Answer) → status_of x ≡ 135 → (b : BadImage) × (x ≡ Bad b)
is_bad small Done e = absurd (omega (arith, e))
is_bad small Usage e = absurd (omega (arith, e))
is_bad small FileFault e = absurd (omega (arith, e))
is_bad small FileLong e = absurd (omega (arith, e))
is_bad small (Refused f) e = absurd (no_fault f 135 e (inr (omega arith)) (λ n. omega (arith, n)))
is_bad small (Bad b) e = (b, refl)
is_bad small (Ran x) e = absurd (no_ending small x 135 e (omega arith) (inl (omega arith)))
is_bad small NotYet e = absurd (omega (arith, e))

pub is_ran : (x : Answer) (s : ℕ) → status_of x ≡ s → 136 ≤ s → s ≤ 143 → (e : Ending) × (x ≡ Ran e) × (endings.status_of e ≡ s)
is_ran Done s e low high = absurd (omega (arith, e, low))
is_ran Usage s e low high = absurd (omega (arith, e, low))
is_ran FileFault s e low high = absurd (omega (arith, e, low))
is_ran FileLong s e low high = absurd (omega (arith, e, low))
is_ran (Refused f) s e low high = absurd (no_fault f s e (inr (omega (arith, low))) (λ n. omega (arith, n, high)))
is_ran (Bad b) s e low high = absurd (omega (arith, e, low))
is_ran (Ran x) s e low high = (x, refl, e)
is_ran NotYet s e low high = absurd (omega (arith, e, high))

pub is_read_fault : OwnStatusIsBelow → (e : Ending) → endings.status_of e ≡ 142 → e ≡ ReadFault
is_read_fault small (Ended n) is = let s = small n in absurd (omega (arith, s, is))
is_read_fault small Steps is = absurd (omega (arith, is))
is_read_fault small Divide is = absurd (omega (arith, is))
is_read_fault small Stack is = absurd (omega (arith, is))
is_read_fault small Descriptors is = absurd (omega (arith, is))
is_read_fault small Far is = absurd (omega (arith, is))
is_read_fault small Spent is = absurd (omega (arith, is))
is_read_fault small ReadFault is = refl
is_read_fault small WriteFault is = absurd (omega (arith, is))
is_read_fault small NoMemory is = absurd (omega (arith, is))

pub is_write_fault : OwnStatusIsBelow → (e : Ending) → endings.status_of e ≡ 143 → e ≡ WriteFault
is_write_fault small (Ended n) is = let s = small n in absurd (omega (arith, s, is))
is_write_fault small Steps is = absurd (omega (arith, is))
is_write_fault small Divide is = absurd (omega (arith, is))
is_write_fault small Stack is = absurd (omega (arith, is))
is_write_fault small Descriptors is = absurd (omega (arith, is))
is_write_fault small Far is = absurd (omega (arith, is))
is_write_fault small Spent is = absurd (omega (arith, is))
is_write_fault small ReadFault is = absurd (omega (arith, is))
is_write_fault small WriteFault is = refl
is_write_fault small NoMemory is = absurd (omega (arith, is))

pub is_not_yet : OwnStatusIsBelow → (x : Answer) → status_of x ≡ 145 → x ≡ NotYet
is_not_yet small Done e = absurd (omega (arith, e))
is_not_yet small Usage e = absurd (omega (arith, e))
is_not_yet small FileFault e = absurd (omega (arith, e))
is_not_yet small FileLong e = absurd (omega (arith, e))
is_not_yet small (Refused f) e = absurd (no_fault f 145 e (inr (omega arith)) (λ n. omega (arith, n)))
is_not_yet small (Bad b) e = absurd (omega (arith, e))
is_not_yet small (Ran x) e = absurd (no_ending small x 145 e (omega arith) (inr (omega arith)))
is_not_yet small NotYet e = refl

ending_own : (e : Ending) → endings.status_of e < 128 → IsOwn (Ran e)
ending_own (Ended n) low = ended n refl
ending_own Steps low = absurd (omega (arith, low))
ending_own Divide low = absurd (omega (arith, low))
ending_own Stack low = absurd (omega (arith, low))
ending_own Descriptors low = absurd (omega (arith, low))
ending_own Far low = absurd (omega (arith, low))
ending_own Spent low = absurd (omega (arith, low))
ending_own ReadFault low = absurd (omega (arith, low))
ending_own WriteFault low = absurd (omega (arith, low))
ending_own NoMemory low = absurd (omega (arith, low))

fault_above : (f : SourceFault) → fault_status f < 128 → ⊥
fault_above f low = elim (faults_apart f) [ inl within ↦ let a = within.0 in omega (arith, a, low) | inr memory ↦ omega (arith, memory, low) ]

pub is_own : (x : Answer) → status_of x < 128 → IsOwn x
is_own Done low = done refl
is_own Usage low = absurd (omega (arith, low))
is_own FileFault low = absurd (omega (arith, low))
is_own FileLong low = absurd (omega (arith, low))
is_own (Refused f) low = absurd (fault_above f low)
is_own (Bad b) low = absurd (omega (arith, low))
is_own (Ran e) low = ending_own e low
is_own NotYet low = absurd (omega (arith, low))

fault_small : (f : SourceFault) → fault_status f ≤ 145
fault_small f = elim (faults_apart f) [ inl within ↦ let a = within.1 in omega (arith, a) | inr memory ↦ omega (arith, memory) ]

ending_small : OwnStatusIsBelow → (e : Ending) → endings.status_of e ≤ 145
ending_small small e = elim (endings_apart small e) [ inl below ↦ omega (arith, below) | inr above ↦ let a = above.1 in omega (arith, a) ]

pub statuses_small : OwnStatusIsBelow → (x : Answer) → status_of x ≤ 145
statuses_small small Done = omega arith
statuses_small small Usage = omega arith
statuses_small small FileFault = omega arith
statuses_small small FileLong = omega arith
statuses_small small (Refused f) = fault_small f
statuses_small small (Bad b) = omega arith
statuses_small small (Ran e) = ending_small small e
statuses_small small NotYet = omega arith
