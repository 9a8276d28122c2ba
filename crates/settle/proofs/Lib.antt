pub mod OneUse
pub mod AllUses
