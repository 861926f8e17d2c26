-- What recovery keeps, from one state to a later one: it is so from a state to itself, and from a to b and from b to c gives from a to c.
use Rattle.std.specs.Prelude.{ℕ, ◌≡◌, refl, List, [], ◌++◌, Some}
use Rattle.std.proofs.Common.{sym, ◌∙◌, ap, append_assoc, append-nil}
use Rattle.rows.specs.declared.Entry.{Entry}
use Rattle.machine.specs.Machine.{State, proc_at}
use Rattle.replay.specs.Lists.{All, all_join, all_map}

-- words, log and rows begun are as they were; new answer rows stand behind the old ones, each of a row that its process had open at first; and no row is
-- open that was not
pub record Since (s s' : State) : Type 0 where
  pub words : s'.words ≡ s.words
  pub log : s'.log ≡ s.log
  pub new : List Entry
  pub answers : s'.answers ≡ s.answers ++ new
  pub told : All (λ e. (proc_at e.process s).opened ≡ Some e.row) new
  pub begun : (q : ℕ) → (proc_at q s').begun ≡ (proc_at q s).begun
  pub opened : (q k : ℕ) → (proc_at q s').opened ≡ Some k → (proc_at q s).opened ≡ Some k

pub since_none : (s : State) → Since s s
since_none s = record { words = refl; log = refl; new = []; answers = sym (append-nil s.answers); told = tt; begun = λ q. refl; opened = λ q k e. e }

pub since_join : (a b c : State) → Since a b → Since b c → Since a c
since_join a b c f g =
    record {
      words = g.words ∙ f.words;
      log = g.log ∙ f.log;
      new = f.new ++ g.new;
      answers = g.answers ∙ ap (λ l. l ++ g.new) f.answers ∙ append_assoc a.answers f.new g.new;
      told = all_join (λ e. (proc_at e.process a).opened ≡ Some e.row) f.new g.new f.told
          (all_map (λ e. (proc_at e.process b).opened ≡ Some e.row) (λ e. (proc_at e.process a).opened ≡ Some e.row) (λ e o. f.opened e.process e.row o) g.new g.told);
      begun = λ q. g.begun q ∙ f.begun q;
      opened = λ q k e. f.opened q k (g.opened q k e);
    }
