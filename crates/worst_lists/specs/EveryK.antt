-- The most by k: no production opens more where a plan uses k bins, and for every k from 1 to the stock and every m a list opens as many. Proved in
-- ../proofs/EveryK.antt, by demand 3 with the constant 5, and by computing over the lists.
use Rattle.std.specs.Prelude.{◌≤◌, ◌<◌, ◌≡◌}
use Rattle.packing.specs.Prelude.{ℕ, true, List, map, length, take, Memᴰ}
use Rattle.packing.specs.declared.{Opening.Opening, Production.Production, Command.Command, Entry.Entry}
use Rattle.packing.specs.declared.Production.TheVariants.{First}
use Rattle.packing.specs.declared.Command.TheVariants.{Shelve}
use Rattle.packing.specs.Refusing.{pass}
use Rattle.packing.specs.Limits.{m_good, opening_good}
use Rattle.packing.specs.Streams.{accepted, verdict}
use Rattle.packing.specs.Plans.{check}
use Rattle.packing.specs.Compared.{accepted_sizes, number_opened, none_altered, used}
use Rattle.worst_lists.specs.Lists.{stock, capacity, opening, most, worst, plan}
use Rattle.worst_lists.specs.Streams.{sending}

-- The list for k is sent with this m, as a stream of bytes that is accepted with a word for each item. All its items are accepted, and none is taken out or
-- settled; k bins are the fewest for them; and the method opens the most that the bound and the stock allow.
pub record MetBy (m k : ℕ) : Type 0 where
  pub bytes : (b : ℕ) → Memᴰ b (sending (opening m) (worst k)) → b < 256
  pub is_read : verdict (sending (opening m) (worst k)) (length (worst k)) ≡ accepted (opening m) (map Shelve (worst k))
  pub all_accepted : accepted_sizes (opening m) First (map Shelve (worst k)) ≡ worst k
  pub none_is_altered : none_altered (opening m) First (map Shelve (worst k)) ≡ true
  pub opens : number_opened (opening m) First (map Shelve (worst k)) ≡ most k
  pub passes : check capacity k (plan k) (worst k) ≡ pass
  pub uses : used (plan k) ≡ k
  pub none_uses_fewer : (j : ℕ) (other : List Entry) → check capacity j other (worst k) ≡ pass → k ≤ used other

abbrev pub EveryKMet : Type 0
EveryKMet = (m k : ℕ) → m_good m ≡ true → 1 ≤ k → k ≤ stock → MetBy m k

-- And never is more opened: most k bounds what any production opens, by any opening, after any commands up to which nothing of it was taken out or settled,
-- against any plan that passes and uses k bins.
abbrev pub NeverMore : Type 0
NeverMore =
    (o : Opening) (q : Production) (cs : List Command) → opening_good o ≡ true → (j k : ℕ) (plan : List Entry) → none_altered o q (take j cs) ≡ true
    → check o.capacity k plan (accepted_sizes o q (take j cs)) ≡ pass → number_opened o q (take j cs) ≤ most (used plan)
