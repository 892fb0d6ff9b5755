-- What setting one limit of a group changes.
use Rattle.std.proofs.Common.{◌≡◌, ◌≢◌, ℕ, refl}
use Rattle.flat_model.specs.State.{Attr, Limit}
use Rattle.flat_model.specs.File.{LimitFile, PidsMax, MaxDescendants, MaxDepth}
use Rattle.flat_model.specs.Step.{limit_at, with_limit}

pub set_is : (file : LimitFile) (l : Limit) (a : Attr) → limit_at file (with_limit file l a) ≡ l
set_is PidsMax l a = refl
set_is MaxDescendants l a = refl
set_is MaxDepth l a = refl

pub others_are : (file other : LimitFile) (l : Limit) (a : Attr) → other ≢ file → limit_at other (with_limit file l a) ≡ limit_at other a
others_are PidsMax PidsMax l a n = absurd (n refl)
others_are PidsMax MaxDescendants l a n = refl
others_are PidsMax MaxDepth l a n = refl
others_are MaxDescendants PidsMax l a n = refl
others_are MaxDescendants MaxDescendants l a n = absurd (n refl)
others_are MaxDescendants MaxDepth l a n = refl
others_are MaxDepth PidsMax l a n = refl
others_are MaxDepth MaxDescendants l a n = refl
others_are MaxDepth MaxDepth l a n = absurd (n refl)

pub kept_is : (file : LimitFile) (a : Attr) → with_limit file (limit_at file a) a ≡ a
kept_is PidsMax a = refl
kept_is MaxDescendants a = refl
kept_is MaxDepth a = refl

pub last_is : (file : LimitFile) (l m : Limit) (a : Attr) → with_limit file m (with_limit file l a) ≡ with_limit file m a
last_is PidsMax l m a = refl
last_is MaxDescendants l m a = refl
last_is MaxDepth l m a = refl

pub local_stays : (file : LimitFile) (l : Limit) (a : Attr) → (with_limit file l a).local ≡ a.local
local_stays PidsMax l a = refl
local_stays MaxDescendants l a = refl
local_stays MaxDepth l a = refl

pub total_stays : (file : LimitFile) (l : Limit) (a : Attr) → (with_limit file l a).total ≡ a.total
total_stays PidsMax l a = refl
total_stays MaxDescendants l a = refl
total_stays MaxDepth l a = refl

pub peak_stays : (file : LimitFile) (l : Limit) (a : Attr) → (with_limit file l a).peak ≡ a.peak
peak_stays PidsMax l a = refl
peak_stays MaxDescendants l a = refl
peak_stays MaxDepth l a = refl
