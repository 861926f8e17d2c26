-- The contract of `load_words`, and that it leaves no second outcome. That of `run` stands in `Run`, and its law in `Only`.
use Rattle.std.specs.Prelude.{ℕ, ◌≡◌, List, length}
use Rattle.std.proofs.Common.{sym, ◌∙◌}
use Rattle.runfile.specs.declared.Header.{Header}
use Rattle.runfile.specs.Operations.{words_from}

-- `load_words(file, header, words)`: the words before, and after
abbrev pub Loaded : (f : List ℕ) (h : Header) (words words' : List ℕ) → Type 0
Loaded f h words words' = words' ≡ words_from h.version f (length words)

pub loaded_one : (f : List ℕ) (h : Header) (words x y : List ℕ) → Loaded f h words x → Loaded f h words y → x ≡ y
loaded_one f h words x y a b = a ∙ sym b
