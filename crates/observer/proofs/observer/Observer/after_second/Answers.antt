-- What the parts of a second answer makes the observer of the log with its row.
use Rattle.observer.proofs.Counting.{second_seen}
use Rattle.observer.proofs.observer.Observer.after_second.Goals as goal

pub returns : goal.returns
returns c rs row k shown before =
    second_seen rs row k shown before c.is_window_flash-in_flash.ensures c.is_of_wait.ensures c.wait_with-waited.ensures c.opens.ensures c.after_second.ensures
