-- What a command says, in the words that it came in. The names of the commands are in Parse.
use Rattle.std.specs.Prelude.{List, [], ◌∷◌, map, ℕ, ℤ}
use Rattle.wire.specs.Words.{Word}
use Rattle.commands.specs.declared.Versioning.{Versioning}
use Rattle.commands.specs.declared.Lifetime.{Lifetime}
use Rattle.commands.specs.declared.Condition.{Condition}
use Rattle.commands.specs.declared.Question.{Question}
use Rattle.commands.specs.declared.Listing.{Listing}

-- what is done with one field
pub data Deed : Type 0 where
  assign : (value : Word) (condition : Condition) (versioning : Versioning) (lifetime : Lifetime) → Deed
  increment : (amount least greatest : ℤ) (versioning : Versioning) (lifetime : Lifetime) → Deed
  expire : (instant : ℕ) (versioning : Versioning) → Deed
  persist : Deed
  renumber : (version : ℕ) → Deed
  ask : (question : Question) → Deed

pub record Pair : Type 0 where
  pub field : Word
  pub value : Word

pub data Command : Type 0 where
  on_field : (key field : Word) (deed : Deed) → Command
  set_many : (key : Word) (pairs : List Pair) → Command
  get_many : (key : Word) (fields : List Word) (question : Question) → Command
  delete : (key : Word) (fields : List Word) → Command
  count_held : (key : Word) → Command
  count_live : (key : Word) → Command
  list : (key : Word) (listing : Listing) → Command

unfoldable pub key_of : Command → Word
key_of (on_field k f d) = k
key_of (set_many k ps) = k
key_of (get_many k fs q) = k
key_of (delete k fs) = k
key_of (count_held k) = k
key_of (count_live k) = k
key_of (list k l) = k

-- the fields that a command names
unfoldable pub fields_of : Command → List Word
fields_of (on_field k f d) = f ∷ []
fields_of (set_many k ps) = map (λ p. p.field) ps
fields_of (get_many k fs q) = fs
fields_of (delete k fs) = fs
fields_of (count_held k) = []
fields_of (count_live k) = []
fields_of (list k l) = []

unfoldable pub deed_values : Deed → List Word
deed_values (assign v c n t) = v ∷ []
deed_values (increment a l g n t) = []
deed_values (expire t n) = []
deed_values persist = []
deed_values (renumber v) = []
deed_values (ask q) = []

-- the values that a command brings
unfoldable pub values_of : Command → List Word
values_of (on_field k f d) = deed_values d
values_of (set_many k ps) = map (λ p. p.value) ps
values_of (get_many k fs q) = []
values_of (delete k fs) = []
values_of (count_held k) = []
values_of (count_live k) = []
values_of (list k l) = []
